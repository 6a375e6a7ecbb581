use Rattle.mz_print.proofs.ShownValues.{prints_values}
use Rattle.mz_print.proofs.value_law.values_are_printable.Goals as goal

pub returns : goal.returns
returns c = prints_values
