use Rattle.std.proofs.Common.{arith}
use Rattle.mz_arena.proofs.Telling.{extent_past}
use Rattle.mz_arena.proofs.table.Table.reach.Goals as goal

pub returns-else-id-len : goal.returns-else-id-len
returns-else-id-len c = extent_past c.args.self.now.sets.items c.args.self.now.stored.items c.args.id (omega arith)
