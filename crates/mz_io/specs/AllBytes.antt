-- What is read of a whole source.
use Rattle.std.specs.Prelude.{◌≡◌, ◌<◌, ◌≤◌, ◌+◌, ◌++◌, ℕ, List, [], length, Option, Some, None, Result, Ok, Err, Vec}
use Rattle.std.specs.declared.alloc.Global.{Global}
use Rattle.mz_io.specs.Counts.{Rose}
use Rattle.mz_io.specs.Source.{Left}
use Rattle.mz_io.specs.declared.all_bytes.ReadEnd.{ReadEnd}
use Rattle.mz_io.specs.declared.all_bytes.ReadEnd.TheVariants.{Failed, TooLong, Memory}

-- these are all bytes that a source has left, where they are told
abbrev pub HasAll : Left → Left → List ℕ → Type 0
HasAll None new bytes = new ≡ None
HasAll (Some left) new bytes = (left ≡ bytes) × (new ≡ Some [])

abbrev pub HasMore : Left → ℕ → Type 0
HasMore None limit = Unit {0}
HasMore (Some left) limit = limit < length left

-- WHAT READING ALL BYTES PROMISES, by its answer
abbrev pub ReadsAll : ℕ → Left → Left → Result (Vec ℕ Global) ReadEnd → Type 0
ReadsAll limit old new (Ok bytes) = HasAll old new bytes.items × (length bytes.items ≤ limit)
ReadsAll limit old new (Err Failed) = Unit {0}
ReadsAll limit old new (Err TooLong) = HasMore old limit
ReadsAll limit old new (Err Memory) = Unit {0}

-- the count of faults rises where the source failed, and nowhere else
abbrev pub CountsAll : ℕ → ℕ → Result (Vec ℕ Global) ReadEnd → Type 0
CountsAll old new (Err Failed) = Rose old new
CountsAll old new (Err TooLong) = new ≡ old
CountsAll old new (Err Memory) = new ≡ old
CountsAll old new (Ok bytes) = new ≡ old

-- what the loop keeps: these bytes were taken

abbrev pub Took : Left → Left → List ℕ → Type 0
Took None new taken = new ≡ None
Took (Some left) new taken = (rest : List ℕ) × (left ≡ taken ++ rest) × (new ≡ Some rest)
