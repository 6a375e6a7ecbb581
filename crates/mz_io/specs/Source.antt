-- What a source tells of the bytes that it gives.
use Rattle.std.specs.Prelude.{◌≡◌, ◌≤◌, ◌++◌, ℕ, List, [], take, Option, Some, None}
use Rattle.mz_io.specs.declared.source.Took.{Took}
use Rattle.mz_io.specs.declared.source.Took.TheVariants as took
use Rattle.mz_io.specs.Counts.{Rose, raised}

-- the bytes that are left; None where nothing is told
abbrev pub Left : Type 0
Left = Option (List ℕ)

-- what an answer says of the bytes left, where they are told: buf holds the bytes that were given
abbrev pub Gives : Left → Left → List ℕ → Took → Type 0
Gives None new buf answer = new ≡ None
Gives (Some left) new buf (took.Some n) = (rest : List ℕ) × (left ≡ take n buf ++ rest) × (new ≡ Some rest)
Gives (Some left) new buf took.End = (left ≡ []) × (new ≡ Some [])
Gives (Some left) new buf took.Failed = new ≡ Some left

-- at least one byte is given, and no more than there is room for
abbrev pub IsWithin : ℕ → Took → Type 0
IsWithin room (took.Some n) = (1 ≤ n) × (n ≤ room)
IsWithin room _ = Unit {0}

-- only a failure raises the count of faults
abbrev pub Counts : ℕ → ℕ → Took → Type 0
Counts old new took.Failed = Rose old new
Counts old new _ = new ≡ old

-- only a failure is counted
abbrev pub faults_after : ℕ → Took → ℕ
faults_after old took.Failed = raised old
faults_after old _ = old
