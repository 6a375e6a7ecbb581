-- Mirror of src/checking.rt; private clauses only. How the files of a model are read and typed.
use Rattle.std.specs.Prelude.{◌≡◌, ◌<◌, ◌+◌, ℕ, List, length, map, All}
use Rattle.mz_base.specs.declared.fault.Fault.{Fault}
use Rattle.mz_base.specs.declared.stop.Stop.{Stop}
use Rattle.mz_base.specs.declared.stop.Stop.TheVariants as stop
use Rattle.mz_base.specs.Names.{text_of, AreDistinct}
use Rattle.mz_io.specs.Files.{Texts}
use Rattle.mz_tree.specs.Data.{Given}
use Rattle.mz_include.specs.Naming.{File}
use Rattle.mz_include.specs.declared.end.GatherEnd.{GatherEnd}
use Rattle.mz_include.specs.declared.end.GatherEnd.TheVariants as gathered
use Rattle.mz_include.specs.declared.with_data.gathering.SourcesWithData.{SourcesWithData}
use Rattle.mz_include.specs.WithData.{IsSourcesWithData}
use Rattle.mz_words.specs.Requests.{Settings}
use Rattle.mz_core.specs.Program.{PlainProgram, plain_program}
use Rattle.mz_meaning.specs.Walk.{Limits}
use Rattle.mz_model_meaning.specs.Refusals as walks
use Rattle.fz_program.specs.Names.{Name}
use Rattle.mz_analysis.specs.Analysis.{FailsTest, IsRead, IsTypedModel, evaluated, file_name, files_read, items_read, names_of}
use Rattle.mz_tool.specs.declared.checking.Checked.{Checked}

-- the names of data files
abbrev pub data_names : List Name → SourcesWithData → List Name
data_names table read = map (text_of table) read.data_files.items

-- the name of the file of a fault's place, among the files that were read
abbrev pub name_in : List Name → SourcesWithData → Fault → Name
name_in table read f = file_name (files_read table read) (data_names table read) f.span.file

-- how it ends, where the files that were read stop at this
abbrev pub Stops : List Name → SourcesWithData → Stop → GatherEnd → Type 0
Stops table read (stop.Refused f) (gathered.Refused g n) = (g ≡ f) × (text_of table n ≡ name_in table read f)
Stops table read stop.Memory gathered.Memory = Unit {0}
Stops table read s e = ⊥

-- a refusal's file is one of the table
abbrev pub IsNamedFailure : List Name → GatherEnd → Type 0
IsNamedFailure table (gathered.Refused f n) = n < length table
IsNamedFailure table gathered.ReadFault = Unit {0}
IsNamedFailure table gathered.Memory = Unit {0}

-- why the files are refused: a test fails, or they are typed to a program of which each walk stops
pub data IsRefusedAs (l : Limits) (table : List Name) (files : List File) (data_files : List Name) (items : List Given) : Fault → Type 0 where
  by_a_test : {f : Fault} → FailsTest table files (length data_files) items f → IsRefusedAs l table files data_files items f
  as_stopped : {f : Fault} (p : PlainProgram) → IsTypedModel table files items p → walks.Stops l p f → f.span.file < length files + length data_files → IsRefusedAs l table files data_files items f

-- so are the files that were read, and this is the name of the file of the fault's place
pub record IsNamedRefusal (l : Limits) (table : List Name) (read : SourcesWithData) (f : Fault) (n : ℕ) : Type 0 where
  pub refused : IsRefusedAs l table (files_read table read) (data_names table read) (items_read read) f
  pub named : text_of table n ≡ name_in table read f

-- whatever the limits are
pub record IsEarlyRefusal (table : List Name) (read : SourcesWithData) (f : Fault) (n : ℕ) : Type 0 where
  pub by : (l : Limits) → IsNamedRefusal l table read f n

-- the files are typed to the program, and its names are of the table
pub record HasProgram (table : List Name) (c : Checked) : Type 0 where
  pub typed : IsTypedModel table (files_read table c.read) (items_read c.read) (plain_program c.program)
  pub named : All (λ n. n < length table) (names_of (plain_program c.program).decls)
  pub named_in_order : All (λ n. n < length table) (names_of (evaluated (plain_program c.program)))

-- the files are those of the settings
pub record IsChecked (table : List Name) (texts : Texts) (s : Settings) (c : Checked) : Type 0 where
  pub sources : IsSourcesWithData table texts s.model s.data_files (files_read table c.read) (items_read c.read)
  pub read : IsRead table c.read
  pub given : data_names table c.read ≡ s.data_files
  pub distinct : AreDistinct table
  pub program : HasProgram table c
