-- What a compilation promises: the model's names and types, and its data, are right, and the bytes written spell a program that has the
-- model's solutions and no others.
use Rattle.std.specs.Prelude.{◌≡◌, ℕ, List}
use Rattle.mz_io.specs.Files.{Texts}
use Rattle.mz_io.specs.Sink.{Held, Adds, AddsPrefix}
use Rattle.mz_tree.specs.Data.{Given}
use Rattle.mz_include.specs.Naming.{File}
use Rattle.mz_include.specs.WithData.{IsSourcesWithData}
use Rattle.mz_words.specs.Requests.{Settings, Asked, compile, check, print, make}
use Rattle.mz_core.specs.Program.{PlainProgram}
use Rattle.mz_meaning.specs.Walk.{Limits}
use Rattle.fz_program.specs.Names.{Name}
use Rattle.fz_program.specs.Flat.{Program}
use Rattle.fz_text.specs.Spelling.{Spells}
use Rattle.mz_headline.specs.Keeping.{KeepsSolutions}
use Rattle.mz_analysis.specs.Analysis.{IsTypedModel}
use Rattle.mz_tool.specs.Compiled.{HasFront}
use Rattle.mz_tool.specs.Making.{summary}
use Rattle.mz_tool.specs.Words.{settings_in, texts_in}

-- the limits of an evaluation
abbrev pub limits_of : Settings → Limits
limits_of s = record { budget = s.budget; int_range = s.int_range }

-- The model's files with the items of its data are typed to a program, and the bytes spell a FlatZinc program that has its solutions, read
-- off by names, with the same objective.
pub record Compiled (l : Limits) (table : List Name) (files : List File) (items : List Given) (written : List ℕ) : Type 0 where
  pub model : PlainProgram
  pub typed : IsTypedModel table files items model
  pub program : Program
  pub keeps : KeepsSolutions l table model program
  -- the model's variables and arrays, in the order of evaluation, and variables that are introduced
  pub front : HasFront l table model program
  pub spelled : Spells written program

-- the model of these settings, with its included files and its data, is compiled to these bytes
pub record Compiles (table : List Name) (texts : Texts) (s : Settings) (written : List ℕ) : Type 0 where
  pub files : List File
  pub items : List Given
  pub sources : IsSourcesWithData table texts s.model s.data_files files items
  pub compiled : Compiled (limits_of s) table files items written

-- `compile` puts the bytes after those held, `check` leaves those held, and `make` puts a summary after them; what `print` puts there isn't
-- told here
abbrev pub Leaves : Asked → Held → Held → List ℕ → Program → Type 0
Leaves (compile s) old new written flat = Adds old new written
Leaves (check s) old new written flat = new ≡ old
Leaves (print s) old new written flat = ⊥
Leaves (make n) old new written flat = Adds old new (summary n written flat)

-- a prefix of that goes after those held; `check` writes nothing
abbrev pub LeavesPrefix : Asked → Held → Held → List ℕ → Program → Type 0
LeavesPrefix (compile s) old new written flat = AddsPrefix old new written
LeavesPrefix (check s) old new written flat = ⊥
LeavesPrefix (print s) old new written flat = ⊥
LeavesPrefix (make n) old new written flat = AddsPrefix old new (summary n written flat)

-- the model that is asked for is typed and compiled, and this is left of the bytes and the program
pub record Writes (table : List Name) (texts : Texts) (a : Asked) (old new : Held) : Type 0 where
  pub written : List ℕ
  pub compiles : Compiles table (texts_in texts a) (settings_in a) written
  pub leaves : Leaves a old new written compiles.compiled.program

pub record WritesPrefix (table : List Name) (texts : Texts) (a : Asked) (old new : Held) : Type 0 where
  pub written : List ℕ
  pub compiles : Compiles table (texts_in texts a) (settings_in a) written
  pub leaves : LeavesPrefix a old new written compiles.compiled.program
