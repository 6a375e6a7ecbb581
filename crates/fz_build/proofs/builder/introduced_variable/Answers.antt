use Rattle.std.proofs.Common.{refl}
use Rattle.fz_build.proofs.builder.introduced_variable.Goals as goal

pub returns : goal.returns
returns c = refl
