use Rattle.mz_headline.proofs.Whole.{boundaries_join}
use Rattle.mz_headline.proofs.law.boundaries_join.Goals as goal

pub returns : goal.returns
returns c = boundaries_join
