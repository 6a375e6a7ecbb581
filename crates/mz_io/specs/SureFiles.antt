-- Files in memory of which no fetch fails, as contracts see them.
use Rattle.std.specs.Prelude.{ℕ, List, Option}
use Rattle.mz_io.specs.declared.files.Fetched.{Fetched}
use Rattle.mz_io.specs.declared.files.Fetched.TheVariants.{Memory}
use Rattle.mz_io.specs.Files.{FileCounts}
use Rattle.mz_io.specs.MemFiles.{FitsLimit}

-- names with their texts, and how many fetches met no file, and one that is too long
pub record SureTexts : Type 0 where
  pub entries : List (List ℕ × List ℕ)
  pub misses : ℕ
  pub overruns : ℕ

abbrev pub counts_of : SureTexts → FileCounts
counts_of s = record { faults = 0; misses = s.misses; overruns = s.overruns }

-- memory runs out only in a call that was to give a text
abbrev pub WantsMemory : Option (List ℕ) → ℕ → Fetched → Type 0
WantsMemory text limit Memory = FitsLimit text limit
WantsMemory text limit _ = Unit {0}
