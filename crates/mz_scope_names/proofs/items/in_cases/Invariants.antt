use Rattle.std.proofs.Common.{◌≡◌, ◌++◌, drop}
use Rattle.std.specs.List.{flat_map}
use Rattle.mz_scope_names.specs.Occurrences.{of_case}
use Rattle.mz_scope_names.proofs.items.in_cases.Given as goal

abbrev pub invariant-loop-case : goal.invariant-loop-case
invariant-loop-case l = l.fn.out.items ++ flat_map (λ x. of_case x) l.cases ≡ l.out.items ++ flat_map (λ x. of_case x) (drop l.case-index l.cases)
