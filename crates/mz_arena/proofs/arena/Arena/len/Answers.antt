use Rattle.std.proofs.Common.{arith}
use Rattle.mz_arena.proofs.Pushed.{length_seen}
use Rattle.mz_arena.proofs.arena.Arena.len.Goals as goal

pub returns-clause-count : goal.returns-clause-count
returns-clause-count c = let h = length_seen c.self.inside.table.sets.items c.self.inside.table.stored.items c.args.self.now c.self.view_is in omega (arith, h, c.self.inside.table.stored.ok.0)
