use Rattle.mz_graph.proofs.Classes.{falls_strictly}
use Rattle.mz_graph.proofs.law.component_falls.Goals as goal

pub returns : goal.returns
returns c = falls_strictly
