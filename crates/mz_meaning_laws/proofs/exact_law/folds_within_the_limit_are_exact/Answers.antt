use Rattle.mz_meaning_laws.proofs.Limits.{exact_is}
use Rattle.mz_meaning_laws.proofs.exact_law.folds_within_the_limit_are_exact.Goals as goal

pub returns : goal.returns
returns c = exact_is
