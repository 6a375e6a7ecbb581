use Rattle.mz_print_stream.proofs.Readings.{reads_the_stream}
use Rattle.mz_print_stream.proofs.laws.reads_the_stream.Goals as goal

pub returns : goal.returns
returns c = reads_the_stream
