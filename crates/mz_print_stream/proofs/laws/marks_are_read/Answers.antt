use Rattle.mz_print_stream.proofs.Outputs.{marks_are_read}
use Rattle.mz_print_stream.proofs.laws.marks_are_read.Goals as goal

pub returns : goal.returns
returns c = marks_are_read
