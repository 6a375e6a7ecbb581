-- What a clause reads of a source that reads from a reader of the system.
use Rattle.std.specs.Prelude.{ℕ}
use Rattle.mz_io.specs.declared.std_source.StdSource.{StdSource}

-- the reader
abbrev pub reader_of : {R : Type 0} → StdSource R → R
reader_of source = source.reader

-- how often a take failed
abbrev pub faults_of : {R : Type 0} → StdSource R → ℕ
faults_of source = source.faults
