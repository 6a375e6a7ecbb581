use Rattle.mz_include.proofs.OneData as One
use Rattle.mz_include.proofs.with_data.law.one_failure.Goals as goal

pub returns : goal.returns
returns c = λ names texts first given f g owner other distinct h k. One.one_first_failure names distinct texts first given f g owner other h k
