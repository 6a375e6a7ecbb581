use Rattle.mz_print.proofs.Faults.{faults_come_first}
use Rattle.mz_print.proofs.output_law.faults_come_first.Goals as goal

pub returns : goal.returns
returns c = faults_come_first
