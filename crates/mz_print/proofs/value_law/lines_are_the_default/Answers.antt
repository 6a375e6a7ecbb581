use Rattle.mz_print.proofs.DefaultLines.{are_the_default}
use Rattle.mz_print.proofs.value_law.lines_are_the_default.Goals as goal

pub returns : goal.returns
returns c = are_the_default
