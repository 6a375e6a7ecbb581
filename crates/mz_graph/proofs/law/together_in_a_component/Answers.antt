use Rattle.mz_graph.proofs.Classes.{together}
use Rattle.mz_graph.proofs.law.together_in_a_component.Goals as goal

pub returns : goal.returns
returns c = together
