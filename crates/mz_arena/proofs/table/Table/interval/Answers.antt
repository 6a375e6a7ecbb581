use Rattle.std.proofs.Common.{◌∙◌}
use Rattle.mz_arena.proofs.Telling.{interval_told}
use Rattle.mz_arena.proofs.table.Table.interval.Goals as goal

pub returns : goal.returns
returns c = c.interval_in.ensures ∙ interval_told c.args.self.now c.reach-reach.result _ c.reach-reach.ensures
