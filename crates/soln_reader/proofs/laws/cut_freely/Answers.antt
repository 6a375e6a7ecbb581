use Rattle.soln_reader.proofs.CutLemmas.{cut_freely}
use Rattle.soln_reader.proofs.laws.cut_freely.Goals as goal

pub returns : goal.returns
returns c = cut_freely
