use Rattle.std.proofs.Common.{Some, sym, subst, take, map, arith}
use Rattle.mz_arena_blocks.specs.Joins.{join_from}
use Rattle.mz_arena_blocks.specs.Lists.{list_at}
use Rattle.mz_arena_blocks.proofs.Walked.{block_fits, join_block}
use Rattle.mz_arena_blocks.proofs.blocks.Blocks.joined_from.Goals as goal

pub join-requires-clause-second : goal.join-requires-clause-second
join-requires-clause-second g c =
    block_fits g.T.Join.seen g.T.Join.fits g.T.Join.joined (record { fit = g.met.T.Join.fit; associative = g.met.T.Join.associative }) c.args.self.now c.loop-left.at (list_at c.args.self.now c.loop-left.at) c.in-Some.next c.in-Some.span c.in-Some.all.now c.in-Some.ensures.elements c.in-Some.ensures.block

pub loop-left-preserved : goal.loop-left-preserved
loop-left-preserved g c =
    let seen = g.T.Join.seen in
    let s = c.in-Some.ensures in
    let fit = block_fits seen g.T.Join.fits g.T.Join.joined (record { fit = g.met.T.Join.fit; associative = g.met.T.Join.associative }) c.args.self.now c.loop-left.at (list_at c.args.self.now c.loop-left.at) c.in-Some.next c.in-Some.span c.in-Some.all.now s.elements s.block in (
      omega (arith, s.block.below, s.block.some, c.loop-left.invariant.0),
      subst g.T.Join.fits (sym c.in_ok-acc-in-Some.ensures) (g.met.T.Join.fit (seen c.loop-left.acc) (seen c.in-Some.all.now) c.loop-left.invariant.1 fit),
      join_block seen g.T.Join.fits g.T.Join.joined (record { fit = g.met.T.Join.fit; associative = g.met.T.Join.associative }) c.args.self.now c.loop-left.at c.loop-left.left c.in-Some.next c.in-Some.span c.in-Some.all.now c.loop-left.acc c.in_ok-acc-in-Some.acc (Some (join_from g.T.Join.joined (seen c.args.first) (map seen (take c.args.count (list_at c.args.self.now c.args.list))))) s c.loop-left.invariant.1 c.in_ok-acc-in-Some.ensures c.loop-left.invariant.2,
    )
