use Rattle.mz_arena.proofs.Telling.{single_told}
use Rattle.mz_arena.proofs.table.Table.single.Goals as goal

pub returns : goal.returns
returns c = rw c.single_in.ensures (single_told c.args.self.now c.reach-reach.result _ c.reach-reach.ensures)
