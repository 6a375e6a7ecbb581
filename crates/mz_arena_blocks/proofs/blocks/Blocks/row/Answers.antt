use Rattle.std.proofs.Common.{arith}
use Rattle.mz_arena_blocks.proofs.Placed.{seen_length, none_at, row_at}
use Rattle.mz_arena_blocks.proofs.blocks.Blocks.row.Goals as goal

pub index-requires : goal.index-requires
index-requires g c = let h = seen_length c.self.inside.rows.items c.args.self.now c.self.view_is in omega (arith, h, c.requires, c.if-list-eq0.false, c.self.inside.rows.ok.0)

pub returns-then-list-eq0 : goal.returns-then-list-eq0
returns-then-list-eq0 g c = none_at c.self.inside.rows.items c.args.self.now c.args.list c.self.view_is c.if-list-eq0.true

pub returns-else-list-eq0 : goal.returns-else-list-eq0
returns-else-list-eq0 g c =
    row_at g.T.Join.seen g.T.Join.fits g.T.Join.joined c.self.inside.rows.items c.args.self.now c.args.list c.index.result.now c.self.invariant c.self.view_is (omega (arith, c.if-list-eq0.false)) c.requires c.index.ensures
