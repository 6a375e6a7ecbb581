-- Data files, each read in its turn, and the first one that fails.
use Rattle.std.specs.Prelude.{◌≡◌, ◌+◌, ℕ, suc, List, [], ◌∷◌, ◌++◌, Some, slice_get}
use Rattle.mz_base.specs.declared.fault.Fault.{Fault}
use Rattle.mz_base.specs.declared.kind.Kind.TheVariants.{MissingFile, TooLong}
use Rattle.mz_base.specs.Faults.{start_of, fault_at}
use Rattle.mz_io.specs.Files.{Texts}
use Rattle.mz_tree.specs.Data.{Given}
use Rattle.mz_include.specs.Sources.{IsMissing, IsTooLong, IsFetched}
use Rattle.mz_include.specs.DataTexts.{IsDataText, IsUnfitText}

-- the data file of this name, fetched and read as the file of this number
pub record IsDataReading (names : List (List ℕ)) (texts : Texts) (turn : ℕ) (name : List ℕ) (items : List Given) : Type 0 where
  pub text : List ℕ
  pub fetched : IsFetched texts name text
  pub parsed : IsDataText names turn text items

-- These are the items of the data files of these names, in order. The first file has the number `turn`, and each one after it the
-- next number: a name that is given twice is read twice.
pub data AreDataRead (names : List (List ℕ)) (texts : Texts) : ℕ → List (List ℕ) → List Given → Type 0 where
  no_more : {turn : ℕ} → AreDataRead names texts turn [] []
  one_more : {turn : ℕ} {name : List ℕ} {rest : List (List ℕ)} {items more : List Given} → IsDataReading names texts turn name items → AreDataRead names texts (suc turn) rest more → AreDataRead names texts turn (name ∷ rest) (items ++ more)

-- Why the data file of this name fails. One that is missing or too long is named by the command line, and has the place of its own
-- first byte.
pub data FailsAsData (names : List (List ℕ)) (texts : Texts) (turn : ℕ) (name : List ℕ) : Fault → Type 0 where
  missing : IsMissing texts name → FailsAsData names texts turn name (fault_at MissingFile (start_of turn))
  too_long : IsTooLong texts name → FailsAsData names texts turn name (fault_at TooLong (start_of turn))
  unfit : {f : Fault} (text : List ℕ) → IsFetched texts name text → IsUnfitText names turn text f → FailsAsData names texts turn name f

-- the first data file that fails, by its name: those before it are read
pub data FailsFirst (names : List (List ℕ)) (texts : Texts) : ℕ → List (List ℕ) → Fault → List ℕ → Type 0 where
  here : {turn : ℕ} {name : List ℕ} {rest : List (List ℕ)} {f : Fault} → FailsAsData names texts turn name f → FailsFirst names texts turn (name ∷ rest) f name
  later : {turn : ℕ} {name : List ℕ} {rest : List (List ℕ)} {items : List Given} {f : Fault} {owner : List ℕ} → IsDataReading names texts turn name items → FailsFirst names texts (suc turn) rest f owner → FailsFirst names texts turn (name ∷ rest) f owner

-- the data file of this number, where the first one has the number `turn`, has this name
abbrev pub HasDataNumber : ℕ → List (List ℕ) → ℕ → List ℕ → Type 0
HasDataNumber turn given number name = (k : ℕ) × (number ≡ turn + k) × (slice_get given k ≡ Some name)
