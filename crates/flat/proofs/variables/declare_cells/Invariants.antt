use Rattle.mz_arena.specs.Instances.{model_var}
use Rattle.flat_reif.specs.States.{state}
use Rattle.flat.proofs.Stepping.{CellsLeft}
use Rattle.flat.proofs.variables.declare_cells.Given as goal

abbrev pub invariant-cells : goal.invariant-cells
invariant-cells l = CellsLeft (state l.fn.flat) (state l.flat) (model_var l.m) l.x l.cells l.c-index l.k
