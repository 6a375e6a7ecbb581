use Rattle.mz_include.proofs.OneSources as One
use Rattle.mz_include.proofs.law.sources_or_failure.Goals as goal

pub returns : goal.returns
returns c = λ names texts first files f owner distinct s h. One.sources_or_failure names distinct texts first files f owner s h
