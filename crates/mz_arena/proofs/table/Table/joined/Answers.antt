use Rattle.mz_arena.proofs.Kept.{same_put, same_kept}
use Rattle.mz_arena.proofs.table.Table.joined.Goals as goal

pub returns-then-k-m : goal.returns-then-k-m
returns-then-k-m c = record { kept = same_kept c.args.self.now c.requires.sound; put = same_put c.args.self.now c.args.k c.args.m c.requires.sound c.requires.first c.if-k-m.true }
