use Rattle.mz_include.proofs.Owners.{failure_there}
use Rattle.mz_include.proofs.law.fault_in_its_file.Goals as goal

pub returns : goal.returns
returns c = λ names texts first f owner h. failure_there names texts first f owner h
