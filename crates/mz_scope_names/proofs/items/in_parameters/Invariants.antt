use Rattle.std.proofs.Common.{◌≡◌, ◌++◌, drop}
use Rattle.std.specs.List.{flat_map}
use Rattle.mz_tree.specs.Views.{declaration}
use Rattle.mz_scope_names.specs.Occurrences.{in_parameter}
use Rattle.mz_scope_names.proofs.items.in_parameters.Given as goal

abbrev pub invariant-loop-d : goal.invariant-loop-d
invariant-loop-d l = l.fn.out.items ++ flat_map (λ x. in_parameter (declaration x)) l.params ≡ l.out.items ++ flat_map (λ x. in_parameter (declaration x)) (drop l.d-index l.params)
