use Rattle.std.proofs.Common.{map}
use Rattle.mz_arena.specs.Instances.{model_var, var_cell}
use Rattle.flat_reif.specs.States.{state}
use Rattle.flat.proofs.Stepping.{cells_from}
use Rattle.flat.specs.Cleared.{value_parts}
use Rattle.flat.proofs.Clearing.{PartsLeft}
use Rattle.flat.proofs.cleared.clear_cells.Given as goal

abbrev pub invariant-cells : goal.invariant-cells
invariant-cells l = PartsLeft (state l.fn.flat) (state l.flat) (value_parts (model_var l.m) (map var_cell l.cells)) (value_parts (model_var l.m) (cells_from l.c-index l.cells))
