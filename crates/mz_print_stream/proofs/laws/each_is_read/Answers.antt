use Rattle.mz_print_stream.proofs.Readings.{each_is_read}
use Rattle.mz_print_stream.proofs.laws.each_is_read.Goals as goal

pub returns : goal.returns
returns c = each_is_read
