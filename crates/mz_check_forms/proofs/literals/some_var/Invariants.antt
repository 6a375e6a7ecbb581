use Rattle.std.proofs.Common.{◌≡◌, map, drop}
use Rattle.std.specs.List.{list_any}
use Rattle.mz_core.specs.TreeViews.{tree}
use Rattle.mz_check_meaning.specs.Arrays.{is_var}
use Rattle.mz_check_forms.proofs.literals.some_var.Given as goal

abbrev pub invariant-loop-e : goal.invariant-loop-e
invariant-loop-e l = list_any is_var (map tree l.es) ≡ list_any is_var (map tree (drop l.e-index l.es))
