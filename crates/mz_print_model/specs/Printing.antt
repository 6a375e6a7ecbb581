-- WHAT PRINTS THE SOLUTIONS OF A MODEL, and where nothing does.
use Rattle.std.specs.Prelude.{◌≡◌, ℕ, List, Result, Ok, Err}
use Rattle.mz_base.specs.declared.stop.Stop.{Stop}
use Rattle.mz_base.specs.declared.stop.Stop.TheVariants.{Refused, Memory}
use Rattle.mz_core.specs.Program.{PlainProgram}
use Rattle.mz_arena.specs.Instances.{ModelVar}
use Rattle.mz_meaning.specs.Walk.{Limits, ordered}
use Rattle.mz_model_meaning.specs.Modeled.{AreVarsOf}
use Rattle.mz_model_meaning.specs.Refusals.{Stops}
use Rattle.fz_items.specs.Forms.{Form, forms}
use Rattle.mz_print.specs.Output.{OutputName}
use Rattle.mz_print_model.specs.Shapes.{forms_of}
use Rattle.mz_print_stream.specs.Printing.{Texts}
use Rattle.mz_print.specs.Printers.{IsTaken, solution_texts, texts_of}
use Rattle.mz_print_model.specs.Names.{FindsNames}
use Rattle.mz_print_model.specs.declared.top_call.SolutionPrinting.{SolutionPrinting}

-- THE TEXTS OF A MODEL'S SOLUTIONS, AND THE FORMS OF THEIR VALUES: by the names and the variables that each walk over it finds
pub record HasTexts (l : Limits) (table : List (List ℕ)) (p : PlainProgram) (ts : Texts) (fs : List Form) : Type 0 where
  pub vars : List ModelVar
  pub declared : AreVarsOf (ordered p.decls p.order) vars
  pub names : List OutputName
  pub found : FindsNames l p vars names
  pub texts : ts ≡ texts_of table l.budget l.int_range p names
  pub forms : fs ≡ forms_of table vars

-- it makes these texts of these forms' values
pub record IsPrinting (l : Limits) (table : List (List ℕ)) (p : PlainProgram) (x : SolutionPrinting) : Type 0 where
  pub has : HasTexts l table p (solution_texts x.printer) (forms x.shapes.items)
  pub takes : IsTaken x.printer (forms x.shapes.items)

-- the model's solutions can be printed; or each walk over the model stops at this fault, and nothing solves the model
abbrev pub PrintingEnds : Limits → List (List ℕ) → PlainProgram → Result SolutionPrinting Stop → Type 0
PrintingEnds l table p (Ok x) = IsPrinting l table p x
PrintingEnds l table p (Err (Refused f)) = Stops l p f
PrintingEnds l table p (Err Memory) = Unit {0}
