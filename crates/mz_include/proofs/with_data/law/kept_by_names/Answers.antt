use Rattle.mz_include.proofs.LaterData.{sources_later, failure_later}
use Rattle.mz_include.proofs.with_data.law.kept_by_names.Goals as goal

pub returns : goal.returns
returns c = λ old new grows. (λ texts first given. sources_later old new grows texts first given, λ texts first given. failure_later old new grows texts first given)
