-- What holds of every model with its data files, and of its first failure.
use Rattle.std.specs.Prelude.{◌≡◌, ℕ, List, Option, Some}
use Rattle.mz_base.specs.declared.fault.Fault.{Fault}
use Rattle.mz_base.specs.Names.{AreDistinct, Grows}
use Rattle.mz_io.specs.Files.{Texts}
use Rattle.mz_tree.specs.Data.{Given}
use Rattle.mz_include.specs.Naming.{File}
use Rattle.mz_include.specs.DataFiles.{FailsFirst, HasDataNumber}
use Rattle.mz_include.specs.WithData.{IsSourcesWithData, FailsWithData}

-- Where the texts are told, and each text of the table has one name, files aren't both read and refused.
abbrev pub ExcludeEachOther : Type 0
ExcludeEachOther = (names : List (List ℕ)) (texts : List ℕ → Option (List ℕ)) (first : List ℕ) (data_names : List (List ℕ)) (files : List File) (items : List Given) (f : Fault) (owner : List ℕ)
    → AreDistinct names → IsSourcesWithData names (Some texts) first data_names files items → FailsWithData names (Some texts) first data_names f owner → ⊥

-- a model has one list of files, and its data files have one list of items
abbrev pub AreReadOnce : Type 0
AreReadOnce = (names : List (List ℕ)) (texts : List ℕ → Option (List ℕ)) (first : List ℕ) (data_names : List (List ℕ)) (files others : List File) (items more : List Given)
    → AreDistinct names → IsSourcesWithData names (Some texts) first data_names files items → IsSourcesWithData names (Some texts) first data_names others more → (files ≡ others) × (items ≡ more)

-- there is one first failure
abbrev pub HaveOneFailure : Type 0
HaveOneFailure = (names : List (List ℕ)) (texts : List ℕ → Option (List ℕ)) (first : List ℕ) (data_names : List (List ℕ)) (f g : Fault) (owner other : List ℕ)
    → AreDistinct names → FailsWithData names (Some texts) first data_names f owner → FailsWithData names (Some texts) first data_names g other → (f ≡ g) × (owner ≡ other)

-- The number in the place of a data file's failure is that of the data file with the name that is told.
abbrev pub DataFaultsAreInTheirFiles : Type 0
DataFaultsAreInTheirFiles = (names : List (List ℕ)) (texts : Texts) (turn : ℕ) (data_names : List (List ℕ)) (f : Fault) (owner : List ℕ)
    → FailsFirst names texts turn data_names f owner → HasDataNumber turn data_names f.span.file owner

-- What is read stays read, and a first failure stays one, where the table of names grows.
abbrev pub StaySo : Type 0
StaySo = (old new : List (List ℕ)) → Grows old new
    → ((texts : Texts) (first : List ℕ) (data_names : List (List ℕ)) (files : List File) (items : List Given) → IsSourcesWithData old texts first data_names files items → IsSourcesWithData new texts first data_names files items)
    × ((texts : Texts) (first : List ℕ) (data_names : List (List ℕ)) (f : Fault) (owner : List ℕ) → FailsWithData old texts first data_names f owner → FailsWithData new texts first data_names f owner)
