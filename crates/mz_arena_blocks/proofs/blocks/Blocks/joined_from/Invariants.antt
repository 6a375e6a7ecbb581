use Rattle.std.proofs.Common.{◌≡◌, ◌<◌, Some, take, map, length}
use Rattle.mz_arena_blocks.specs.Joins.{join_from}
use Rattle.mz_arena_blocks.specs.Lists.{list_at}
use Rattle.mz_arena_blocks.proofs.blocks.Blocks.joined_from.Given as goal

abbrev pub invariant-loop-left : goal.invariant-loop-left
invariant-loop-left g l =
    (l.at < length l.self) × g.T.Join.fits (g.T.Join.seen l.acc)
    × (Some (join_from g.T.Join.joined (g.T.Join.seen l.acc) (map g.T.Join.seen (take l.left (list_at l.self l.at)))) ≡ Some (join_from g.T.Join.joined (g.T.Join.seen l.fn.first) (map g.T.Join.seen (take l.count (list_at l.self l.list)))))

abbrev pub decreases-loop-left : goal.decreases-loop-left
decreases-loop-left g l = l.left
