-- Files in memory, as contracts see them.
use Rattle.std.specs.Prelude.{◌≡◌, ◌≤◌, ◌<◌, ℕ, List, [], ◌∷◌, length, Option, Some, None, codes, refl}
use Rattle.std.specs.Map.{lookup}
use Rattle.std.specs.Str.{bytes_eq}
use Rattle.mz_io.specs.declared.files.Fetched.{Fetched}
use Rattle.mz_io.specs.declared.files.Fetched.TheVariants.{Bytes, Missing, TooLong, Failed, Memory}
use Rattle.mz_io.specs.Counts.{raised}
use Rattle.mz_io.specs.Files.{FileCounts, counts_after}

-- names with their texts, the numbers of the calls that fail, and how many calls there were
pub record FileList : Type 0 where
  pub entries : List (List ℕ × List ℕ)
  pub failing : List ℕ
  pub calls : ℕ
  pub counts : FileCounts

-- the text of the first entry of a name
abbrev pub text_of : List (List ℕ × List ℕ) → List ℕ → Option (List ℕ)
text_of entries name = lookup (λ key. bytes_eq key name) entries

-- the files after a call: its number and its answer are counted, and nothing else changes
abbrev pub files_after : FileList → Fetched → FileList
files_after old answer = record old { calls = raised old.calls; counts = counts_after old.counts answer }

-- a text within the limit was there to be copied
pub record FitsLimit (text : Option (List ℕ)) (limit : ℕ) : Type 0 where
  pub bytes : List ℕ
  pub found : text ≡ Some bytes
  pub short : length bytes ≤ limit

-- memory runs out only in a call that was to give a text
abbrev pub WantsMemory : FileList → List ℕ → ℕ → Fetched → Type 0
WantsMemory files name limit Memory = FitsLimit (text_of files.entries name) limit
WantsMemory files name limit _ = Unit {0}

-- what an answer says of the one text that is to be copied
abbrev pub CopiesWithin : List ℕ → ℕ → Fetched → Type 0
CopiesWithin text limit (Bytes bytes) = (bytes.items ≡ text) × (length text ≤ limit)
CopiesWithin text limit TooLong = limit < length text
CopiesWithin text limit Memory = length text ≤ limit
CopiesWithin text limit Missing = ⊥
CopiesWithin text limit Failed = ⊥

-- the first entry of a name counts, and a name that isn't there has no text
pub text_of-first : text_of ((codes "a", 1 ∷ []) ∷ (codes "b", 2 ∷ []) ∷ (codes "b", 3 ∷ []) ∷ []) (codes "b") ≡ Some (2 ∷ [])
text_of-first = refl

pub text_of-none : text_of ((codes "a", 1 ∷ []) ∷ []) (codes "ab") ≡ None
text_of-none = refl
