use Rattle.std.proofs.Common.{◌≡◌, ◌<◌, drop, length}
use Rattle.mz_arena_blocks.specs.Lists.{list_at}
use Rattle.mz_arena_blocks.proofs.blocks.Blocks.skip.Given as goal

abbrev pub invariant-loop-left : goal.invariant-loop-left
invariant-loop-left g l = (l.at < length l.self) × (drop l.left (list_at l.self l.at) ≡ drop l.count (list_at l.self l.list))

abbrev pub decreases-loop-left : goal.decreases-loop-left
decreases-loop-left g l = l.left
