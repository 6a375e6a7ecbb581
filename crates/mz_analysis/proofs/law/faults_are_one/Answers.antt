use Rattle.mz_analysis.proofs.Single.{one_refused}
use Rattle.mz_analysis.proofs.law.faults_are_one.Goals as goal

pub returns : goal.returns
returns c = λ table files items f g h k. one_refused table files items f g h k
