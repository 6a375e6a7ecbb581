use Rattle.std.proofs.Common.{◌≡◌, ◌++◌, drop}
use Rattle.std.specs.List.{flat_map}
use Rattle.mz_scope_names.specs.Occurrences.{of_case}
use Rattle.mz_scope_names.proofs.given.in_listed.Given as goal

abbrev pub invariant-loop-case : goal.invariant-loop-case
invariant-loop-case l = l.fn.out.items ++ flat_map (λ x. of_case (x, l.at)) l.cases ≡ l.out.items ++ flat_map (λ x. of_case (x, l.at)) (drop l.case-index l.cases)
