use Rattle.mz_print_stream.proofs.Outputs.{one_printing}
use Rattle.mz_print_stream.proofs.laws.one_printing.Goals as goal

pub returns : goal.returns
returns c = one_printing
