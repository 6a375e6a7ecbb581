use Rattle.std.proofs.Common.{◌+◌, map, [], ◌∷◌, subst}
use Rattle.mz_arena.specs.Instances.{model_var, var_cell}
use Rattle.mz_instance.specs.Parts.{value_part}
use Rattle.flat_reif.specs.States.{state}
use Rattle.flat.proofs.Stepping.{cells_from}
use Rattle.flat.specs.Cleared.{value_parts}
use Rattle.flat.proofs.Clearing.{PartsLeft, parts_begin, parts_first, parts_next, parts_done, cells_left, cells_end}
use Rattle.flat.proofs.cleared.clear_cells.Goals as goal

pub cells-init : goal.cells-init
cells-init c = parts_begin (state c.args.flat.now) (value_parts (model_var c.args.m.now) (map var_cell c.args.cells.now)) c.requires.ready c.requires.bound

pub clear_cell-requires-clause-ready : goal.clear_cell-requires-clause-ready
clear_cell-requires-clause-ready c = c.cells.invariant.cleared.leads.ready

pub clear_cell-requires-clause-bound : goal.clear_cell-requires-clause-bound
clear_cell-requires-clause-bound c = parts_first (state c.args.flat.now) (state c.cells.flat) (value_parts (model_var c.args.m.now) (map var_cell c.args.cells.now)) (value_part (model_var c.args.m.now) (var_cell c.c-item.result) ∷ []) (value_parts (model_var c.args.m.now) (cells_from (c.cells.c-index + 1) c.args.cells.now)) (subst (PartsLeft (state c.args.flat.now) (state c.cells.flat) (value_parts (model_var c.args.m.now) (map var_cell c.args.cells.now))) (cells_left (model_var c.args.m.now) c.args.cells.now c.cells.c-index c.c-item.result _ c.cells-test.true c.c-item.is) c.cells.invariant)

pub cells-preserved : goal.cells-preserved
cells-preserved c = parts_next (state c.args.flat.now) (state c.cells.flat) (state c.clear_cell.new.flat) (value_parts (model_var c.args.m.now) (map var_cell c.args.cells.now)) (value_part (model_var c.args.m.now) (var_cell c.c-item.result) ∷ []) (value_parts (model_var c.args.m.now) (cells_from (c.cells.c-index + 1) c.args.cells.now)) (subst (PartsLeft (state c.args.flat.now) (state c.cells.flat) (value_parts (model_var c.args.m.now) (map var_cell c.args.cells.now))) (cells_left (model_var c.args.m.now) c.args.cells.now c.cells.c-index c.c-item.result _ c.cells-test.true c.c-item.is) c.cells.invariant) c.in-Ok.ensures

pub returns : goal.returns
returns c = parts_done (state c.args.flat.now) (state c.cells.flat) (value_parts (model_var c.args.m.now) (map var_cell c.args.cells.now)) (subst (PartsLeft (state c.args.flat.now) (state c.cells.flat) (value_parts (model_var c.args.m.now) (map var_cell c.args.cells.now))) (cells_end (model_var c.args.m.now) c.args.cells.now c.cells.c-index c.cells-test.false) c.cells.invariant)
