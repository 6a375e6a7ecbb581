-- WHAT A MODEL'S SOLUTIONS ARE PRINTED AS, and which stream of a solver is printed.
use Rattle.std.specs.Prelude.{List}
use Rattle.mz_io.specs.Files.{Texts}
use Rattle.mz_tree.specs.Data.{Given}
use Rattle.mz_include.specs.Naming.{File}
use Rattle.mz_include.specs.WithData.{IsSourcesWithData}
use Rattle.mz_words.specs.Requests.{Settings}
use Rattle.mz_core.specs.Program.{PlainProgram}
use Rattle.fz_items.specs.Forms.{Form}
use Rattle.fz_program.specs.Names.{Name}
use Rattle.mz_print_stream.specs.Printing as printing
use Rattle.mz_print_model.specs.Printing.{HasTexts}
use Rattle.mz_analysis.specs.Analysis.{IsTypedModel}
use Rattle.mz_tool.specs.Headline.{limits_of}

-- the model of these settings, with its included files and its data, has these texts for its solutions, whose values are of these forms
pub record IsPrintable (table : List Name) (texts : Texts) (s : Settings) (ts : printing.Texts) (fs : List Form) : Type 0 where
  pub files : List File
  pub items : List Given
  pub sources : IsSourcesWithData table texts s.model s.data_files files items
  pub model : PlainProgram
  pub typed : IsTypedModel table files items model
  pub has : HasTexts (limits_of s) table model ts fs
