use Rattle.mz_arena.proofs.Telling.{wholes_told}
use Rattle.mz_arena.proofs.table.Table.is_whole_list.Goals as goal

pub returns : goal.returns
returns c = rw c.is_whole_list.ensures (wholes_told c.args.self.now c.reach-reach.result _ c.reach-reach.ensures)
