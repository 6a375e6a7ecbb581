-- What holds of every model's files, and of its first failure.
use Rattle.std.specs.Prelude.{◌≡◌, ℕ, List, Option, Some, All}
use Rattle.std.specs.List.{flat_map}
use Rattle.mz_base.specs.declared.fault.Fault.{Fault}
use Rattle.mz_base.specs.Names.{AreDistinct, Grows}
use Rattle.mz_io.specs.Files.{Texts}
use Rattle.mz_tree.specs.declared.source.SourceFile.{SourceFile}
use Rattle.mz_include.specs.Trees.{DeclaresSpelled}
use Rattle.mz_include.specs.Naming.{File}
use Rattle.mz_include.specs.Sources.{IsSources, IsFirstFailure, IsInItsFile}
use Rattle.mz_include.specs.Views.{AreKnown}

-- Where the texts are told, and each text of the table has one name, a model doesn't both have its files and fail.
abbrev pub ExcludeEachOther : Type 0
ExcludeEachOther = (names : List (List ℕ)) (texts : List ℕ → Option (List ℕ)) (first : List ℕ) (files : List File) (f : Fault) (owner : List ℕ)
    → AreDistinct names → IsSources names (Some texts) first files → IsFirstFailure names (Some texts) first f owner → ⊥

-- it has one list of files
abbrev pub HasOneModel : Type 0
HasOneModel = (names : List (List ℕ)) (texts : List ℕ → Option (List ℕ)) (first : List ℕ) (files others : List File)
    → AreDistinct names → IsSources names (Some texts) first files → IsSources names (Some texts) first others → files ≡ others

-- it has one first failure
abbrev pub HasOneFailure : Type 0
HasOneFailure = (names : List (List ℕ)) (texts : List ℕ → Option (List ℕ)) (first : List ℕ) (f g : Fault) (owner other : List ℕ)
    → AreDistinct names → IsFirstFailure names (Some texts) first f owner → IsFirstFailure names (Some texts) first g other → (f ≡ g) × (owner ≡ other)

-- The number in the place of a first failure is that of the file with the name that is told.
abbrev pub FaultsAreInTheirFiles : Type 0
FaultsAreInTheirFiles = (names : List (List ℕ)) (texts : Texts) (first : List ℕ) (f : Fault) (owner : List ℕ) (h : IsFirstFailure names texts first f owner) → IsInItsFile names texts first f owner h

-- A model's files stay its files, a first failure stays one, and what is known of the code's files stays known, where the
-- table of names grows.
abbrev pub StaySo : Type 0
StaySo = (old new : List (List ℕ)) → Grows old new
    → ((texts : Texts) (first : List ℕ) (files : List File) → IsSources old texts first files → IsSources new texts first files)
    × ((texts : Texts) (first : List ℕ) (f : Fault) (owner : List ℕ) → IsFirstFailure old texts first f owner → IsFirstFailure new texts first f owner)
    × ((files : List SourceFile) → AreKnown old files → AreKnown new files)

-- The names that the declarations of a model's files give are identifiers.
abbrev pub DeclarationsAreSpelled : Type 0
DeclarationsAreSpelled = (names : List (List ℕ)) (texts : Texts) (first : List ℕ) (files : List File) → IsSources names texts first files → All (DeclaresSpelled names) (flat_map (λ f. f.items) files)
