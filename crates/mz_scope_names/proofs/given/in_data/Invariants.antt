use Rattle.std.proofs.Common.{◌≡◌, ◌++◌, drop}
use Rattle.std.specs.List.{flat_map}
use Rattle.mz_tree.specs.Data.{given}
use Rattle.mz_scope_names.specs.Given.{in_given}
use Rattle.mz_scope_names.specs.Sets.{holds}
use Rattle.mz_scope_names.proofs.given.in_data.Given as goal

abbrev pub invariant-loop-d : goal.invariant-loop-d
invariant-loop-d l = l.fn.out.items ++ flat_map (λ x. in_given (holds x.name l.enums) (given x)) l.items ≡ l.out.items ++ flat_map (λ x. in_given (holds x.name l.enums) (given x)) (drop l.d-index l.items)
