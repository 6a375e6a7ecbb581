use Rattle.mz_analysis.proofs.Single.{not_refused}
use Rattle.mz_analysis.proofs.law.typed_or_refused.Goals as goal

pub returns : goal.returns
returns c = λ table files items f h k. not_refused table files items f h k
