-- A model with its included files, and the first file that fails.
use Rattle.std.specs.Prelude.{◌≡◌, ◌≤◌, ◌<◌, ℕ, List, [], ◌∷◌, ◌++◌, length, slice_get, Some, None}
use Rattle.mz_base.specs.declared.limit.TheConstants.{FILE_LIMIT}
use Rattle.mz_base.specs.declared.fault.Fault.{Fault}
use Rattle.mz_base.specs.declared.kind.Kind.TheVariants.{MissingFile, TooLong}
use Rattle.mz_io.specs.Files.{Texts}
use Rattle.mz_lexer.specs.Lexemes.{fault}
use Rattle.mz_include.specs.Naming.{Mention, File, named, next}
use Rattle.mz_include.specs.Parsing.{IsParsed, IsUnparsed}

-- what the files tell of a name: its text, that there is none, that it is too long
abbrev pub IsText : Texts → List ℕ → List ℕ → Type 0
IsText None name text = Unit {0}
IsText (Some texts) name text = texts name ≡ Some text

abbrev pub IsMissing : Texts → List ℕ → Type 0
IsMissing None name = Unit {0}
IsMissing (Some texts) name = texts name ≡ None

abbrev pub IsTooLong : Texts → List ℕ → Type 0
IsTooLong None name = Unit {0}
IsTooLong (Some texts) name = (text : List ℕ) × (texts name ≡ Some text) × (FILE_LIMIT < length text)

-- a text within the limit that the files tell
pub record IsFetched (texts : Texts) (name text : List ℕ) : Type 0 where
  pub told : IsText texts name text
  pub within : length text ≤ FILE_LIMIT

-- the file whose turn it is, read
pub record IsLoaded (names : List (List ℕ)) (texts : Texts) (turn : ℕ) (m : Mention) (file : File) : Type 0 where
  pub text : List ℕ
  pub fetched : IsFetched texts m.name text
  pub parsed : IsParsed names turn text file
  pub name : file.name ≡ m.name

-- these files are read, one after the other, each in its turn
pub data AreRead (names : List (List ℕ)) (texts : Texts) (first : List ℕ) : List File → Type 0 where
  none_yet : AreRead names texts first []
  one_more : {files : List File} {m : Mention} {file : File} → AreRead names texts first files → next names first files ≡ Some m → IsLoaded names texts (length files) m file → AreRead names texts first (files ++ file ∷ [])

-- The model with its included files: the model, then each included name in the order in which it was first named, each once.
pub record IsSources (names : List (List ℕ)) (texts : Texts) (first : List ℕ) (files : List File) : Type 0 where
  pub read : AreRead names texts first files
  pub all : next names first files ≡ None

-- Why the file whose turn it is fails, and the name of the file of the fault's place. A file that is missing or too long
-- is refused where it was first named.
pub data Fails (names : List (List ℕ)) (texts : Texts) (turn : ℕ) (m : Mention) : Fault → List ℕ → Type 0 where
  missing : IsMissing texts m.name → Fails names texts turn m (fault MissingFile m.span) m.owner
  too_long : IsTooLong texts m.name → Fails names texts turn m (fault TooLong m.span) m.owner
  unparsed : {f : Fault} (text : List ℕ) → IsFetched texts m.name text → IsUnparsed names turn text f → Fails names texts turn m f m.name

-- the first file that fails: those before it are read
pub record IsFirstFailure (names : List (List ℕ)) (texts : Texts) (first : List ℕ) (f : Fault) (owner : List ℕ) : Type 0 where
  pub files : List File
  pub mention : Mention
  pub read : AreRead names texts first files
  pub turn : next names first files ≡ Some mention
  pub fails : Fails names texts (length files) mention f owner

-- the file of this number, among those that are named, has this name
abbrev pub HasNumber : List Mention → ℕ → List ℕ → Type 0
HasNumber mentions number name = (m : Mention) × (slice_get mentions number ≡ Some m) × (m.name ≡ name)

-- the number in the fault's place is that of the file with the owner's name
abbrev pub IsInItsFile : (names : List (List ℕ)) (texts : Texts) (first : List ℕ) (f : Fault) (owner : List ℕ) → IsFirstFailure names texts first f owner → Type 0
IsInItsFile names texts first f owner h = HasNumber (named names first h.files) f.span.file owner
