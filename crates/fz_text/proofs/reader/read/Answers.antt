use Rattle.fz_text.proofs.ProgramAgain.{none_spelled}
use Rattle.fz_text.proofs.reader.read.Goals as goal

pub returns-in-Err-Unfit-clause-refused : goal.returns-in-Err-Unfit-clause-refused
returns-in-Err-Unfit-clause-refused c = (c.unspelled.ensures, none_spelled c.args.bytes.now (rw c.in-Err-Unfit.field-0-is at c.in-Err-Unfit.ensures))
