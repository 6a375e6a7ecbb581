use Rattle.std.proofs.Common.{◌<◌, length, arith}
use Rattle.mz_arena.proofs.Pushed.{node_read, length_seen}
use Rattle.mz_arena.proofs.arena.Arena.node.Goals as goal

pub index-requires : goal.index-requires
index-requires c = let h = length_seen c.self.inside.table.sets.items c.self.inside.table.stored.items c.args.self.now c.self.view_is in omega (arith, h, c.self.inside.table.stored.ok.0)

pub returns : goal.returns
returns c =
    let h = length_seen c.self.inside.table.sets.items c.self.inside.table.stored.items c.args.self.now c.self.view_is in
    let below : c.args.id < length c.self.inside.table.stored.items = omega (arith, h) in
    node_read c.self.inside.table.sets.items c.self.inside.table.stored.items c.args.self.now c.args.id c.index.result.now c.self.view_is below c.index.ensures
