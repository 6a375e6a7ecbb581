use Rattle.fz_build.proofs.Definable.{may_define}
use Rattle.fz_build.proofs.law.results_may_define.Goals as goal

pub returns : goal.returns
returns c p name inputs domain are is some within = may_define p name inputs domain are is some within
