-- What declared sets in code stand for.
use Rattle.std.specs.Prelude.{List, map}
use Rattle.mz_meaning.specs.Arrays as arrays
use Rattle.mz_meaning.specs.Cells.{Cell}
use Rattle.mz_meaning.specs.Cells as cells
use Rattle.mz_eval_cells.specs.declared.types.Known.{Known}
use Rattle.mz_eval_cells.specs.declared.types.Sure.{Sure}
use Rattle.mz_eval_cells.specs.Views.{cell_of, sure_of}
use Rattle.mz_eval_declared.specs.declared.want.Want.{Want}
use Rattle.mz_eval_declared.specs.declared.want.Want.TheVariants as want

abbrev pub wanted : Want → arrays.Want
wanted want.Anything = arrays.Anything
wanted want.Missing = arrays.Missing
wanted (want.Within s) = arrays.Within s

abbrev pub wants_of : List Want → List arrays.Want
wants_of ws = map wanted ws

-- a cell, and whether what is declared of it holds
abbrev pub local_by : (Known → Cell) → Known × Sure → Cell × cells.Sure
local_by see p = (see p.0, sure_of p.1)

abbrev pub local_of : Known × Sure → Cell × cells.Sure
local_of p = local_by cell_of p
