use Rattle.mz_include.proofs.Numbers.{failure_there}
use Rattle.mz_include.proofs.with_data.law.data_fault_in_its_file.Goals as goal

pub returns : goal.returns
returns c = λ names texts turn given f owner h. failure_there names texts turn given f owner h
