use Rattle.std.specs.Prelude.{◌<◌}
use Rattle.mz_analysis.proofs.Types.{types_placed}
use Rattle.mz_analysis.proofs.law.types_refused_in_files.Goals as goal

pub returns : goal.returns
returns c = λ names files table s f some first within refused. types_placed (λ n. n < names) (λ at. at.file < files) first some table s f within refused
