use Rattle.mz_analysis.proofs.Single.{not_both}
use Rattle.mz_analysis.proofs.law.scoped_or_refused.Goals as goal

pub returns : goal.returns
returns c = λ table files items s f h k. not_both table files items s f h k
