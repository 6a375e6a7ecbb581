use Rattle.mz_analysis.proofs.Single.{one_scoped}
use Rattle.mz_analysis.proofs.law.one_scoped_model.Goals as goal

pub returns : goal.returns
returns c = λ table files items s t h k. one_scoped table files items s t h k
