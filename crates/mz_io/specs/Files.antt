-- What a set of files tells of the answers that it gives.
use Rattle.std.specs.Prelude.{◌≡◌, ◌<◌, ◌≤◌, ℕ, List, length, Option, Some, None}
use Rattle.mz_io.specs.declared.files.Fetched.{Fetched}
use Rattle.mz_io.specs.declared.files.Fetched.TheVariants.{Bytes, Missing, TooLong, Failed, Memory}
use Rattle.mz_io.specs.Counts.{Rose, raised}

-- the text of each name that there is; None where nothing is told
abbrev pub Texts : Type 0
Texts = Option (List ℕ → Option (List ℕ))

-- how often a call failed, met no file, and met one that is too long
pub record FileCounts : Type 0 where
  pub faults : ℕ
  pub misses : ℕ
  pub overruns : ℕ

-- what an answer says of the text of a name, where texts are told
abbrev pub Tells : Texts → List ℕ → ℕ → Fetched → Type 0
Tells None name limit answer = Unit {0}
Tells (Some text) name limit (Bytes bytes) = text name ≡ Some bytes.items
Tells (Some text) name limit Missing = text name ≡ None
Tells (Some text) name limit TooLong = (bytes : List ℕ) × (text name ≡ Some bytes) × (limit < length bytes)
Tells (Some text) name limit Failed = Unit {0}
Tells (Some text) name limit Memory = Unit {0}

-- the bytes of an answer are within the limit
abbrev pub IsWithin : ℕ → Fetched → Type 0
IsWithin limit (Bytes bytes) = length bytes.items ≤ limit
IsWithin limit _ = Unit {0}

-- the one count that an answer raises
abbrev pub Counts : FileCounts → FileCounts → Fetched → Type 0
Counts old new (Bytes bytes) = new ≡ old
Counts old new Missing = Rose old.misses new.misses × (new.faults ≡ old.faults) × (new.overruns ≡ old.overruns)
Counts old new TooLong = Rose old.overruns new.overruns × (new.faults ≡ old.faults) × (new.misses ≡ old.misses)
Counts old new Failed = Rose old.faults new.faults × (new.misses ≡ old.misses) × (new.overruns ≡ old.overruns)
Counts old new Memory = new ≡ old

-- no call failed, and none met a file that isn't there or is too long
abbrev pub no_counts : FileCounts
no_counts = record { faults = 0; misses = 0; overruns = 0 }

-- the one count that an answer raises, by one
abbrev pub counts_after : FileCounts → Fetched → FileCounts
counts_after old (Bytes bytes) = old
counts_after old Missing = record old { misses = raised old.misses }
counts_after old TooLong = record old { overruns = raised old.overruns }
counts_after old Failed = record old { faults = raised old.faults }
counts_after old Memory = old
