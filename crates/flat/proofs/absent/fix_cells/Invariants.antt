use Rattle.std.proofs.Common.{map}
use Rattle.mz_arena.specs.Instances.{model_var, var_cell}
use Rattle.flat.proofs.Stepping.{cells_from}
use Rattle.flat.proofs.Absenting.{CellsFixed}
use Rattle.flat.proofs.absent.fix_cells.Given as goal

abbrev pub invariant-cells : goal.invariant-cells
invariant-cells l = CellsFixed l.fn.arena l.arena (model_var l.m) (map var_cell l.cells) (cells_from l.c-index l.cells) l.fn.roots.items l.roots.items
