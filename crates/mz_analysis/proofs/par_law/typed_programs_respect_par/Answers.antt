use Rattle.mz_analysis.proofs.Laws.{nodes_respect_par}
use Rattle.mz_analysis.proofs.par_law.typed_programs_respect_par.Goals as goal

pub returns : goal.returns
returns c = nodes_respect_par
