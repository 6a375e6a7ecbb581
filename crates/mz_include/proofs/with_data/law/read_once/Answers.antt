use Rattle.mz_include.proofs.OneData as One
use Rattle.mz_include.proofs.with_data.law.read_once.Goals as goal

pub returns : goal.returns
returns c = λ names texts first given files others items more distinct s t. One.one_sources names distinct texts first given files others items more s t
