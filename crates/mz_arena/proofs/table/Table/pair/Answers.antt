use Rattle.mz_arena.specs.Tables.{known, set_at}
use Rattle.mz_arena.proofs.Kept.{no_first, no_second}
use Rattle.mz_arena.proofs.table.Table.pair.Goals as goal

pub returns-in_err-k : goal.returns-in_err-k
returns-in_err-k c = rw c.from_residual.ensures (λ op. no_first op (known c.args.self.now c.args.a) (known c.args.self.now c.args.b) c.in_err-k.ensures)

pub returns-in_err-m : goal.returns-in_err-m
returns-in_err-m c =
    rw c.from_residual-in_err-m.ensures
    (λ op. no_second op (known c.args.self.now c.args.a) (known c.args.self.now c.args.b) (set_at c.args.self.now.sets.items c.in_ok-k.k) c.in_ok-k.ensures.1 c.in_err-m.ensures)
