use Rattle.mz_include.proofs.OneSources as One
use Rattle.mz_include.proofs.law.one_failure.Goals as goal

pub returns : goal.returns
returns c = λ names texts first f g owner other distinct h k. One.one_first_failure names distinct texts first f g owner other h k
