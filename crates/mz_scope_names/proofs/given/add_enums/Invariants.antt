use Rattle.std.proofs.Common.{◌≡◌, ◌++◌, drop}
use Rattle.std.specs.List.{flat_map}
use Rattle.mz_tree.specs.Items.{item}
use Rattle.mz_scope_names.specs.Given.{enum_of}
use Rattle.mz_scope_names.proofs.given.add_enums.Given as goal

abbrev pub invariant-loop-item : goal.invariant-loop-item
invariant-loop-item l = l.fn.out.items ++ flat_map (λ x. enum_of (item x)) l.items ≡ l.out.items ++ flat_map (λ x. enum_of (item x)) (drop l.item-index l.items)
