use Rattle.std.proofs.Common.{◌+◌, map, subst}
use Rattle.mz_arena.specs.Instances.{model_var, var_cell}
use Rattle.flat.proofs.Stepping.{cells_from}
use Rattle.flat.proofs.Absenting.{CellsFixed, cells_begin, cells_first, cells_next, cells_done, cells_here, cells_end}
use Rattle.flat.proofs.absent.fix_cells.Goals as goal

pub cells-init : goal.cells-init
cells-init c = cells_begin c.args.arena.now (model_var c.args.m.now) (map var_cell c.args.cells.now) c.args.roots.now.items c.requires.arena c.requires.options

pub fix_cell-requires-clause-arena : goal.fix_cell-requires-clause-arena
fix_cell-requires-clause-arena c = c.cells.invariant.adds.arena

pub fix_cell-requires-clause-option : goal.fix_cell-requires-clause-option
fix_cell-requires-clause-option c = cells_first c.args.arena.now c.cells.arena (model_var c.args.m.now) (map var_cell c.args.cells.now) (var_cell c.c-item.result) (cells_from (c.cells.c-index + 1) c.args.cells.now) c.args.roots.now.items c.cells.roots.items (subst (λ cs. CellsFixed c.args.arena.now c.cells.arena (model_var c.args.m.now) (map var_cell c.args.cells.now) cs c.args.roots.now.items c.cells.roots.items) (cells_here c.args.cells.now c.cells.c-index c.c-item.result _ c.cells-test.true c.c-item.is) c.cells.invariant)

pub cells-preserved : goal.cells-preserved
cells-preserved c = cells_next c.args.arena.now c.cells.arena c.fix_cell.new.arena (model_var c.args.m.now) (map var_cell c.args.cells.now) (var_cell c.c-item.result) (cells_from (c.cells.c-index + 1) c.args.cells.now) c.args.roots.now.items c.cells.roots.items c.fix_cell.new.roots.items (subst (λ cs. CellsFixed c.args.arena.now c.cells.arena (model_var c.args.m.now) (map var_cell c.args.cells.now) cs c.args.roots.now.items c.cells.roots.items) (cells_here c.args.cells.now c.cells.c-index c.c-item.result _ c.cells-test.true c.c-item.is) c.cells.invariant) c.in-Ok.ensures

pub returns : goal.returns
returns c = cells_done c.args.arena.now c.cells.arena (model_var c.args.m.now) (map var_cell c.args.cells.now) c.args.roots.now.items c.cells.roots.items (subst (λ cs. CellsFixed c.args.arena.now c.cells.arena (model_var c.args.m.now) (map var_cell c.args.cells.now) cs c.args.roots.now.items c.cells.roots.items) (cells_end c.args.cells.now c.cells.c-index c.cells-test.false) c.cells.invariant)
