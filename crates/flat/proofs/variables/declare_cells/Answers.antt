use Rattle.mz_arena.specs.Instances.{model_var, var_cell}
use Rattle.flat_reif.specs.States.{state}
use Rattle.flat.proofs.Stepping.{cells_begin, cell_occurs, cell_may, cells_next, cells_done}
use Rattle.flat.proofs.variables.declare_cells.Goals as goal

pub cells-init : goal.cells-init
cells-init c = cells_begin (state c.args.flat.now) (model_var c.args.m.now) c.args.x.now c.args.cells.now c.requires.state c.requires.occurring c.requires.may

pub declare_cell-requires-clause-state : goal.declare_cell-requires-clause-state
declare_cell-requires-clause-state c = c.cells.invariant.left.state

pub declare_cell-requires-clause-occurs : goal.declare_cell-requires-clause-occurs
declare_cell-requires-clause-occurs c = cell_occurs (state c.args.flat.now) (state c.cells.flat) (model_var c.args.m.now) c.args.x.now c.args.cells.now c.cells.c-index c.cells.k c.c-item.result _ c.cells-test.true c.c-item.is c.cells.invariant

pub declare_cell-requires-clause-may : goal.declare_cell-requires-clause-may
declare_cell-requires-clause-may c = cell_may (state c.args.flat.now) (state c.cells.flat) (model_var c.args.m.now) c.args.x.now c.args.cells.now c.cells.c-index c.cells.k c.c-item.result _ c.cells-test.true c.c-item.is c.cells.invariant

pub cells-preserved : goal.cells-preserved
cells-preserved c = cells_next (state c.args.flat.now) (state c.cells.flat) (model_var c.args.m.now) c.args.x.now c.args.cells.now c.cells.c-index c.cells.k c.c-item.result _ c.cells-test.true c.c-item.is c.cells.invariant (state c.declare_cell.new.flat) c.in-Ok.ensures

pub returns : goal.returns
returns c = cells_done (state c.args.flat.now) (state c.cells.flat) (model_var c.args.m.now) c.args.x.now c.args.cells.now c.cells.c-index c.cells.k c.cells-test.false c.cells.invariant
