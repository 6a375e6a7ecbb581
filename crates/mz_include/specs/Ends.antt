-- What gathering the files of a model answers.
use Rattle.std.specs.Prelude.{◌≡◌, ℕ, Result, Ok, Err}
use Rattle.mz_base.specs.declared.fault.Fault.{Fault}
use Rattle.mz_base.specs.declared.kind.Kind.{Kind}
use Rattle.mz_base.specs.declared.kind.Kind.TheVariants.{MissingFile, TooLong}
use Rattle.mz_io.specs.Counts.{Rose}
use Rattle.mz_io.specs.Files.{FileCounts}
use Rattle.mz_include.specs.declared.end.GatherEnd.{GatherEnd}
use Rattle.mz_include.specs.declared.end.GatherEnd.TheVariants.{Refused, ReadFault, Memory}

-- where it answers so, this holds
abbrev pub IfRefused : {X : Type 0} → Result X GatherEnd → (Fault → ℕ → Type 0) → Type 0
IfRefused (Ok x) P = Unit {0}
IfRefused (Err (Refused f n)) P = P f n
IfRefused (Err ReadFault) P = Unit {0}
IfRefused (Err Memory) P = Unit {0}

abbrev pub OnReadFault : {X : Type 0} → Result X GatherEnd → Type 0 → Type 0
OnReadFault (Ok x) P = Unit {0}
OnReadFault (Err (Refused f n)) P = Unit {0}
OnReadFault (Err ReadFault) P = P
OnReadFault (Err Memory) P = Unit {0}

-- the one count of the files that an answer raises
abbrev pub CountsRefusal : Kind → FileCounts → FileCounts → Type 0
CountsRefusal MissingFile old new = Rose old.misses new.misses × (new.faults ≡ old.faults) × (new.overruns ≡ old.overruns)
CountsRefusal TooLong old new = Rose old.overruns new.overruns × (new.faults ≡ old.faults) × (new.misses ≡ old.misses)
CountsRefusal _ old new = new ≡ old

abbrev pub CountsFiles : {X : Type 0} → FileCounts → FileCounts → Result X GatherEnd → Type 0
CountsFiles old new (Ok x) = new ≡ old
CountsFiles old new (Err (Refused f n)) = CountsRefusal f.kind old new
CountsFiles old new (Err ReadFault) = Rose old.faults new.faults × (new.misses ≡ old.misses) × (new.overruns ≡ old.overruns)
CountsFiles old new (Err Memory) = new ≡ old
