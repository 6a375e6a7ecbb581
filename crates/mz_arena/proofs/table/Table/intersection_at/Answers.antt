use Rattle.mz_arena.proofs.Kept.{if_intersection}
use Rattle.mz_arena.proofs.table.Table.intersection_at.Goals as goal

pub returns-clause-is : goal.returns-clause-is
returns-clause-is c =
    if_intersection c.intersect.result c.args.self.now.sets.items c.args.self.now.stored.items c.args.k c.args.m c.index.result.now c.index-2.result.now c.requires.sound c.requires.first c.requires.second c.index.ensures c.index-2.ensures c.intersect.ensures.members c.intersect.ensures.canonical
