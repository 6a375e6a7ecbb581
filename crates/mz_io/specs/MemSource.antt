-- A source in memory, as contracts see it.
use Rattle.std.specs.Prelude.{◌≡◌, ℕ, List, [], ◌∷◌, drop, length, min, refl}
use Rattle.mz_io.specs.declared.source.Took.{Took}
use Rattle.mz_io.specs.declared.source.Took.TheVariants as took
use Rattle.mz_io.specs.Counts.{raised}
use Rattle.mz_io.specs.Source.{faults_after}

-- the bytes left, the most that one call gives, the numbers of the calls that fail, and how many calls there were
pub record ByteSource : Type 0 where
  pub left : List ℕ
  pub most : ℕ
  pub failing : List ℕ
  pub calls : ℕ
  pub faults : ℕ

-- how many bytes an answer gives
abbrev pub count_of : Took → ℕ
count_of (took.Some n) = n
count_of took.End = 0
count_of took.Failed = 0

-- the source after a call: the bytes given are gone, its number and its answer are counted, and nothing else changes
abbrev pub source_after : ByteSource → Took → ByteSource
source_after old answer =
    record old {
      left = drop (count_of answer) old.left;
      calls = raised old.calls;
      faults = faults_after old.faults answer;
    }

-- as many bytes are given as are left and there is leave and room for
abbrev pub IsMost : ByteSource → ℕ → Took → Type 0
IsMost source room (took.Some n) = n ≡ min source.most (min room (length source.left))
IsMost source room _ = Unit {0}

-- a take gives a prefix, and the rest is left
pub source_after-some : (source_after (record { left = 1 ∷ 2 ∷ 3 ∷ []; most = 2; failing = []; calls = 0; faults = 0 }) (took.Some 2)).left ≡ 3 ∷ []
source_after-some = refl
