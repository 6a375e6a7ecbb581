use Rattle.mz_arena.proofs.Telling.{subsets_told}
use Rattle.mz_arena.proofs.table.Table.is_subset_list.Goals as goal

pub returns : goal.returns
returns c = rw c.is_subset_list.ensures (subsets_told c.args.self.now c.reach-reach.result _ c.reach-reach.ensures)
