use Rattle.mz_analysis.proofs.Verdicts.{same_verdict}
use Rattle.mz_analysis.proofs.law.any_order_of_types.Goals as goal

pub returns : goal.returns
returns c = λ table s order other first second. same_verdict s table order other first second
