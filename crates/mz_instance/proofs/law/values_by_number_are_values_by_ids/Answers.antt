use Rattle.mz_instance.proofs.Nodes.{nodes_same, arena_fits, numbers_agree}
use Rattle.mz_instance.proofs.law.values_by_number_are_values_by_ids.Goals as goal

pub returns : goal.returns
returns c = record { nodes = nodes_same; fit = arena_fits; agree = numbers_agree }
