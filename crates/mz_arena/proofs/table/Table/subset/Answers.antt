use Rattle.mz_arena.proofs.Telling.{subset_told}
use Rattle.mz_arena.proofs.table.Table.subset.Goals as goal

pub returns : goal.returns
returns c = rw c.subset_place.ensures (subset_told c.args.self.now.sets.items c.reach-reach.result _ c.reach-reach.ensures)
