use Rattle.std.proofs.Common.{◌≡◌, drop, map}
use Rattle.mz_tree.specs.Items.{item}
use Rattle.mz_scope_order.specs.StepsParts.{first_goal}
use Rattle.mz_scope_order.proofs.items.first_goal.Given as goal

abbrev pub invariant-loop-item : goal.invariant-loop-item
invariant-loop-item l = first_goal (map item (drop l.item-index l.items)) ≡ first_goal (map item l.items)
