use Rattle.std.proofs.Common.{◌≡◌, ◌++◌, ◌+◌, ◌*◌, map, drop}
use Rattle.mz_value.specs.Contents.{content}
use Rattle.mz_builtin_arguments.proofs.copy.+copies.Given as goal

abbrev pub invariant-copied_items-loop-x : goal.invariant-copied_items-loop-x
invariant-copied_items-loop-x l = map content l.all.items ++ map content (drop l.x-index l.items) ≡ map content l.items

abbrev pub decreases-copied : goal.decreases-copied
decreases-copied l = 3 * goal.size-copied l

abbrev pub decreases-array_value : goal.decreases-array_value
decreases-array_value l = 3 * goal.size-array_value l + 2

abbrev pub decreases-copied_items : goal.decreases-copied_items
decreases-copied_items l = 3 * goal.size-copied_items l + 1
