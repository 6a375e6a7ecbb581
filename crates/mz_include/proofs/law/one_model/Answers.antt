use Rattle.mz_include.proofs.OneSources as One
use Rattle.mz_include.proofs.law.one_model.Goals as goal

pub returns : goal.returns
returns c = λ names texts first files others distinct s t. One.one_sources names distinct texts first files others s t
