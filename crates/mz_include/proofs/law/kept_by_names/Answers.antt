use Rattle.mz_include.proofs.KnownFiles.{files_known_later}
use Rattle.mz_include.proofs.Later.{sources_later, first_failure_later}
use Rattle.mz_include.proofs.law.kept_by_names.Goals as goal

pub returns : goal.returns
returns c = λ old new grows. (sources_later old new grows, first_failure_later old new grows, files_known_later old new grows)
