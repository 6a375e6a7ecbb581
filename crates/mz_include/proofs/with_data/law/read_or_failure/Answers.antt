use Rattle.mz_include.proofs.OneData as One
use Rattle.mz_include.proofs.with_data.law.read_or_failure.Goals as goal

pub returns : goal.returns
returns c = λ names texts first given files items f owner distinct s h. One.sources_or_failure names distinct texts first given files items f owner s h
