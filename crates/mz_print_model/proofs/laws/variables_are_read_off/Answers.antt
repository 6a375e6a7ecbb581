use Rattle.mz_print_model.proofs.Reading.{read_off}
use Rattle.mz_print_model.proofs.laws.variables_are_read_off.Goals as goal

pub returns : goal.returns
returns c = read_off
