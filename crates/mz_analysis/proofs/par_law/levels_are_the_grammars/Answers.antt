use Rattle.mz_analysis.proofs.Levels.{levels_are}
use Rattle.mz_analysis.proofs.par_law.levels_are_the_grammars.Goals as goal

pub returns : goal.returns
returns c = levels_are
