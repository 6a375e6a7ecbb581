use Rattle.fz_text.proofs.ProgramAgain.{only_one}
use Rattle.fz_text.proofs.reader.one_program.Goals as goal

pub returns : goal.returns
returns c = only_one
