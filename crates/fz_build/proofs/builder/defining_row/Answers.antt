use Rattle.std.proofs.Common.{refl}
use Rattle.fz_build.proofs.builder.defining_row.Goals as goal

pub returns : goal.returns
returns c = refl
