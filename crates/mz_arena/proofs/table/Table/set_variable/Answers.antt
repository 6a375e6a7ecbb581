use Rattle.mz_arena.specs.Tables.{known, set_at}
use Rattle.mz_arena.proofs.Kept.{set_variable_of, no_set_variable}
use Rattle.mz_arena.proofs.table.Table.set_variable.Goals as goal

pub returns-in_err-k-clause-told : goal.returns-in_err-k-clause-told
returns-in_err-k-clause-told c = rw c.from_residual.ensures (no_set_variable (known c.args.self.now c.args.a) c.in_err-k.ensures)

pub returns-clause-told : goal.returns-clause-told
returns-clause-told c = record { within = c.in_ok-k.ensures.0; is = set_variable_of (known c.args.self.now c.args.a) (set_at c.args.self.now.sets.items c.in_ok-k.k) c.in_ok-k.ensures.1 }
