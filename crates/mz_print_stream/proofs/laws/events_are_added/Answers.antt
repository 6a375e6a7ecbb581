use Rattle.mz_print_stream.proofs.Readings.{events_are_added}
use Rattle.mz_print_stream.proofs.laws.events_are_added.Goals as goal

pub returns : goal.returns
returns c = events_are_added
