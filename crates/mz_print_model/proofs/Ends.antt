-- What the end of one walk tells of the printing.
use Rattle.std.specs.Prelude.{ℕ, List, Err}
use Rattle.mz_base.specs.declared.stop.Stop.{Stop}
use Rattle.mz_base.specs.declared.stop.Stop.TheVariants as stop
use Rattle.mz_core.specs.Program.{PlainProgram}
use Rattle.mz_meaning.specs.Walk.{Limits}
use Rattle.mz_model_meaning.proofs.Ends.{stops}
use Rattle.mz_model.specs.Ending.{ModelEnds}
use Rattle.mz_print_model.specs.Printing.{PrintingEnds}

pub refused : (l : Limits) (table : List (List ℕ)) (p : PlainProgram) (s : Stop) → ModelEnds l p (Err s) → PrintingEnds l table p (Err s)
refused l table p (stop.Refused f) once = stops l p f once
refused l table p stop.Memory once = tt
