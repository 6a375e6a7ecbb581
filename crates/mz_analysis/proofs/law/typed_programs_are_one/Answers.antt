use Rattle.mz_analysis.proofs.Single.{one_typed}
use Rattle.mz_analysis.proofs.law.typed_programs_are_one.Goals as goal

pub returns : goal.returns
returns c = λ table files items p q h k. one_typed table files items p q h k
