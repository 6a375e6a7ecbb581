-- Mirror of src/conditions.rt; private clauses only.
use Rattle.std.specs.Prelude.{Bool}
use Rattle.mz_meaning.specs.Cells.{Cell, is_true, value_of}
use Rattle.mz_symbol.specs.Readings.{Reading}
use Rattle.mz_eval_cells.specs.declared.types.Known.{Known}
use Rattle.mz_eval_cells.specs.Views.{seen}

-- whether a branch's condition is true, and the branch
abbrev pub tested : Reading → Known × Known → Bool × Cell
tested r p = (is_true (value_of (seen r p.0)), seen r p.1)
