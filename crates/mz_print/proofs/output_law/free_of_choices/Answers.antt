use Rattle.mz_print.proofs.Choices.{free_of_choices}
use Rattle.mz_print.proofs.output_law.free_of_choices.Goals as goal

pub returns : goal.returns
returns c = free_of_choices
