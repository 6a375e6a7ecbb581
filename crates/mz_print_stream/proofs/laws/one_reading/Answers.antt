use Rattle.mz_print_stream.proofs.Readings.{one_reading}
use Rattle.mz_print_stream.proofs.laws.one_reading.Goals as goal

pub returns : goal.returns
returns c = one_reading
