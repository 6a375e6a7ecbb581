use Rattle.std.proofs.Common.{refl}
use Rattle.mz_symbol.specs.Readings.{symbol_seen}
use Rattle.mz_symbol.proofs.ReadingLaws.{bare_reads, bare_meets}
use Rattle.mz_symbol.proofs.law.bare_clauses_follow.Goals as goal

pub returns-clause-read : goal.returns-clause-read
returns-clause-read c = bare_reads

pub returns-clause-readings : goal.returns-clause-readings
returns-clause-readings c x old new m a e h = bare_meets symbol_seen x old new m a (record { seen = refl; made = e }) h

pub returns-clause-bare : goal.returns-clause-bare
returns-clause-bare c x old new m h = h
