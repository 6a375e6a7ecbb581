use Rattle.std.proofs.Common.{refl}
use Rattle.fz_build.proofs.builder.defined_variable.Goals as goal

pub returns : goal.returns
returns c = refl
