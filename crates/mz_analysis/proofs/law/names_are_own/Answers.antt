use Rattle.mz_analysis.proofs.Spelled.{names_own}
use Rattle.mz_analysis.proofs.law.names_are_own.Goals as goal

pub returns : goal.returns
returns c = names_own
