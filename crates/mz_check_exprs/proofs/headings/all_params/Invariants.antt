use Rattle.std.proofs.Common.{◌≡◌, [], map, drop}
use Rattle.mz_tree.specs.Views.{declaration}
use Rattle.mz_check_meaning.specs.Tests.{loop}
use Rattle.mz_check_meaning.specs.Headings.{param_next}
use Rattle.mz_check_context.specs.Known.{known}
use Rattle.mz_check_exprs.specs.StepsHeadings.{parameters}
use Rattle.mz_check_exprs.proofs.headings.all_params.Given as goal

abbrev pub invariant-loop-p : goal.invariant-loop-p
invariant-loop-p l = loop (param_next (known l.context) l.start) (parameters [] l.fn.scope) (map declaration l.ps) ≡ loop (param_next (known l.context) l.start) (parameters l.all.items l.scope) (map declaration (drop l.p-index l.ps))
