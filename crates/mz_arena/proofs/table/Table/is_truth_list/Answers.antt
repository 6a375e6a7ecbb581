use Rattle.mz_arena.proofs.Telling.{truths_told}
use Rattle.mz_arena.proofs.table.Table.is_truth_list.Goals as goal

pub returns : goal.returns
returns c = rw c.is_truth_list.ensures (truths_told c.args.self.now c.reach-reach.result _ c.reach-reach.ensures)
