use Rattle.mz_arena.proofs.Telling.{row_told}
use Rattle.mz_arena.proofs.table.Table.row.Goals as goal

pub returns : goal.returns
returns c = rw c.row_in.ensures (row_told c.args.self.now c.reach-reach.result _ c.reach-reach.ensures)
