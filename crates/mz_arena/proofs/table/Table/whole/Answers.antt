use Rattle.std.proofs.Common.{◌∙◌}
use Rattle.mz_arena.proofs.Telling.{whole_told}
use Rattle.mz_arena.proofs.table.Table.whole.Goals as goal

pub returns : goal.returns
returns c = c.whole_in.ensures ∙ whole_told c.args.self.now.sets.items c.reach-reach.result _ c.reach-reach.ensures
