use Rattle.std.proofs.Common.{◌≡◌, map, drop}
use Rattle.mz_core.specs.TreeViews.{tree}
use Rattle.mz_check_meaning.specs.Coerced.{condition}
use Rattle.mz_check_forms.specs.StepsBranches.{all_pass}
use Rattle.mz_check_forms.proofs.branches.are_conditions.Given as goal

abbrev pub invariant-loop-e : goal.invariant-loop-e
invariant-loop-e l = all_pass condition (map tree l.es) ≡ all_pass condition (map tree (drop l.e-index l.es))
