use Rattle.std.proofs.Common.{◌≡◌, map, drop}
use Rattle.mz_core.specs.Types.{plain_type}
use Rattle.mz_core.specs.TreeViews.{tree}
use Rattle.mz_check_meaning.specs.Tests.{loop}
use Rattle.mz_check_meaning.specs.Arrays.{element_next}
use Rattle.mz_check_forms.proofs.joins.elements_above.Given as goal

abbrev pub invariant-loop-e : goal.invariant-loop-e
invariant-loop-e l = loop element_next (plain_type l.fn.start) (map tree l.es) ≡ loop element_next (plain_type l.t) (map tree (drop l.e-index l.es))
