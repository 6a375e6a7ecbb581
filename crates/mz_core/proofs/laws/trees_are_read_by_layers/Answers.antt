use Rattle.mz_core.proofs.TreeLaws.{trees_read_by_layers}
use Rattle.mz_core.proofs.laws.trees_are_read_by_layers.Goals as goal

pub returns : goal.returns
returns c = trees_read_by_layers
