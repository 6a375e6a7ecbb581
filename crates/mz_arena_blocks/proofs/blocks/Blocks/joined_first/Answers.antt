use Rattle.std.proofs.Common.{Some, sym, subst, ap, ◌∙◌}
use Rattle.mz_arena_blocks.specs.Lists.{list_at}
use Rattle.mz_arena_blocks.proofs.Walked.{block_fits, begin_block}
use Rattle.mz_arena_blocks.proofs.blocks.Blocks.joined_first.Goals as goal

pub joined_from-requires-clause-fits : goal.joined_from-requires-clause-fits
joined_from-requires-clause-fits g c =
    let s = c.in-Some.ensures in
    subst g.T.Join.fits (sym c.in_ok-acc.ensures) (block_fits g.T.Join.seen g.T.Join.fits g.T.Join.joined (record { fit = g.met.T.Join.fit; associative = g.met.T.Join.associative }) c.args.self.now c.args.list (list_at c.args.self.now c.args.list) c.in-Some.next c.in-Some.span c.in-Some.all.now s.elements s.block)

pub returns : goal.returns
returns g c =
    ap (λ x. Some x) c.in_ok-joined.ensures.together ∙ begin_block g.T.Join.seen g.T.Join.fits g.T.Join.joined c.args.self.now c.args.list c.args.count c.in-Some.next c.in-Some.span c.in-Some.all.now c.in_ok-acc.acc c.in-Some.ensures c.in_ok-acc.ensures
