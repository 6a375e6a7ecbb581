use Rattle.soln_reader.proofs.CutLemmas.{one_reading}
use Rattle.soln_reader.proofs.laws.one_reading.Goals as goal

pub returns : goal.returns
returns c = one_reading
