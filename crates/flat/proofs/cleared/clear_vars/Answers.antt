use Rattle.std.proofs.Common.{◌+◌, map, subst, sym}
use Rattle.mz_arena.specs.Instances.{model_var, var_cell}
use Rattle.flat_reif.specs.States.{state}
use Rattle.flat.proofs.Stepping.{vars_from}
use Rattle.flat.specs.Cleared.{AreBound, AreCleared, value_parts, all_value_parts}
use Rattle.flat.proofs.Clearing.{PartsLeft, parts_begin, parts_first, parts_next, parts_done, vars_left, vars_end}
use Rattle.flat.proofs.cleared.clear_vars.Goals as goal

pub vars-init : goal.vars-init
vars-init c = parts_begin (state c.args.flat.now) (all_value_parts (map model_var c.args.vars.now)) c.requires.ready c.requires.bound

pub clear_cells-requires-clause-ready : goal.clear_cells-requires-clause-ready
clear_cells-requires-clause-ready c = c.vars.invariant.cleared.leads.ready

pub clear_cells-requires-clause-bound : goal.clear_cells-requires-clause-bound
clear_cells-requires-clause-bound c = subst (λ cs. AreBound (state c.vars.flat).es (value_parts (model_var c.m-item.result) (map var_cell cs))) (sym c.as_slice.ensures.value) (parts_first (state c.args.flat.now) (state c.vars.flat) (all_value_parts (map model_var c.args.vars.now)) (value_parts (model_var c.m-item.result) (model_var c.m-item.result).cells) (all_value_parts (vars_from (c.vars.m-index + 1) c.args.vars.now)) (subst (PartsLeft (state c.args.flat.now) (state c.vars.flat) (all_value_parts (map model_var c.args.vars.now))) (vars_left c.args.vars.now c.vars.m-index c.m-item.result _ c.vars-test.true c.m-item.is) c.vars.invariant))

pub vars-preserved : goal.vars-preserved
vars-preserved c = parts_next (state c.args.flat.now) (state c.vars.flat) (state c.clear_cells.new.flat) (all_value_parts (map model_var c.args.vars.now)) (value_parts (model_var c.m-item.result) (model_var c.m-item.result).cells) (all_value_parts (vars_from (c.vars.m-index + 1) c.args.vars.now)) (subst (PartsLeft (state c.args.flat.now) (state c.vars.flat) (all_value_parts (map model_var c.args.vars.now))) (vars_left c.args.vars.now c.vars.m-index c.m-item.result _ c.vars-test.true c.m-item.is) c.vars.invariant) (subst (λ cs. AreCleared (state c.vars.flat) (state c.clear_cells.new.flat) (value_parts (model_var c.m-item.result) (map var_cell cs))) c.as_slice.ensures.value c.in-Ok.ensures)

pub returns : goal.returns
returns c = parts_done (state c.args.flat.now) (state c.vars.flat) (all_value_parts (map model_var c.args.vars.now)) (subst (PartsLeft (state c.args.flat.now) (state c.vars.flat) (all_value_parts (map model_var c.args.vars.now))) (vars_end c.args.vars.now c.vars.m-index c.vars-test.false) c.vars.invariant)
