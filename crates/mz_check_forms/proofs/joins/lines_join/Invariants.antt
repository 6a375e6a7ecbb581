use Rattle.std.proofs.Common.{◌≡◌, map, drop}
use Rattle.mz_core.specs.Types.{plain_type}
use Rattle.mz_core.specs.TreeViews.{tree}
use Rattle.mz_check_meaning.specs.Tests.{loop}
use Rattle.mz_check_meaning.specs.Coerced.{bottom_type}
use Rattle.mz_check_meaning.specs.Arrays.{element_next}
use Rattle.mz_check_forms.proofs.joins.lines_join.Given as goal

abbrev pub invariant-loop-line : goal.invariant-loop-line
invariant-loop-line l = loop (loop element_next) bottom_type (map (λ r. map tree r.items) l.lines) ≡ loop (loop element_next) (plain_type l.t) (map (λ r. map tree r.items) (drop l.line-index l.lines))
