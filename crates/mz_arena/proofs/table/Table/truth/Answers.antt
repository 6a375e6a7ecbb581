use Rattle.std.proofs.Common.{◌∙◌}
use Rattle.mz_arena.proofs.Telling.{truth_told}
use Rattle.mz_arena.proofs.table.Table.truth.Goals as goal

pub returns : goal.returns
returns c = c.truth_in.ensures ∙ truth_told c.args.self.now.sets.items c.reach-reach.result _ c.reach-reach.ensures
