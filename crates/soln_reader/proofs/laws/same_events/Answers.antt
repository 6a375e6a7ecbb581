use Rattle.soln_reader.proofs.CutLemmas.{same_events}
use Rattle.soln_reader.proofs.laws.same_events.Goals as goal

pub returns : goal.returns
returns c = same_events
