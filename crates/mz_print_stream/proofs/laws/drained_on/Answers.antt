use Rattle.mz_print_stream.proofs.Streams.{drained_on}
use Rattle.mz_print_stream.proofs.laws.drained_on.Goals as goal

pub returns : goal.returns
returns c = drained_on
