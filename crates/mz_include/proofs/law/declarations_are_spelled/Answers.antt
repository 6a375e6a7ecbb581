use Rattle.mz_include.proofs.Spelled.{sources_spelled}
use Rattle.mz_include.proofs.law.declarations_are_spelled.Goals as goal

pub returns : goal.returns
returns c = sources_spelled
