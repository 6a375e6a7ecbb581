use Rattle.std.proofs.Common.{sym, subst, ◌∙◌, arith}
use Rattle.mz_arena_blocks.specs.Lists.{list_at}
use Rattle.mz_arena_blocks.proofs.Walked.{block_fits, both_blocks}
use Rattle.mz_arena_blocks.proofs.blocks.Blocks.first_block.Goals as goal

pub join-requires-clause-second : goal.join-requires-clause-second
join-requires-clause-second g c =
    let b = c.in-Some.first.now in
    block_fits g.T.Join.seen g.T.Join.fits g.T.Join.joined (record { fit = g.met.T.Join.fit; associative = g.met.T.Join.associative }) c.args.self.now c.args.tail (list_at c.args.self.now c.args.tail) b.block.next b.block.span b.block.all c.in-Some.ensures.row.elements c.in-Some.ensures.row.block

pub join-requires-in-Some-clause-first : goal.join-requires-in-Some-clause-first
join-requires-in-Some-clause-first g c =
    let b = c.in-Some.first.now in
    subst g.T.Join.fits (sym c.in_ok-two-in-Some.ensures) (g.met.T.Join.fit (g.T.Join.seen c.args.head.now) (g.T.Join.seen b.block.all) c.requires.fits
    (block_fits g.T.Join.seen g.T.Join.fits g.T.Join.joined (record { fit = g.met.T.Join.fit; associative = g.met.T.Join.associative }) c.args.self.now c.args.tail (list_at c.args.self.now c.args.tail) b.block.next b.block.span b.block.all c.in-Some.ensures.row.elements c.in-Some.ensures.row.block))

pub join-requires-in-Some-clause-second : goal.join-requires-in-Some-clause-second
join-requires-in-Some-clause-second g c =
    let b = c.in-Some.first.now in
    let d = c.in-Some.second.now in
    block_fits g.T.Join.seen g.T.Join.fits g.T.Join.joined (record { fit = g.met.T.Join.fit; associative = g.met.T.Join.associative }) c.args.self.now b.block.next (list_at c.args.self.now b.block.next) d.block.next d.block.span d.block.all c.in-Some.ensures.next.elements c.in-Some.ensures.next.block

pub returns-in_ok-all-in-Some : goal.returns-in_ok-all-in-Some
returns-in_ok-all-in-Some g c =
    both_blocks g.T.Join.seen g.T.Join.fits g.T.Join.joined (record { fit = g.met.T.Join.fit; associative = g.met.T.Join.associative }) c.args.self.now _ c.args.head.now c.in_ok-two-in-Some.two c.in_ok-all-in-Some.all c.args.tail _ c.in-Some.first.now c.in-Some.second.now c.requires.tail c.requires.fits c.in-Some.ensures (omega arith) c.in_ok-two-in-Some.ensures c.in_ok-all-in-Some.ensures
