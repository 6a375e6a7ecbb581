use Rattle.mz_tree.proofs.Staying.{stays}
use Rattle.mz_tree.proofs.names_law.names_stay.Goals as goal

pub returns : goal.returns
returns c = λ before after d grows h. stays before after d grows h
