use Rattle.std.proofs.Common.{map, subst, subst₂, sym}
use Rattle.mz_arena.specs.Instances.{model_var, var_cell}
use Rattle.mz_instance.specs.Instance.{AreOccurring}
use Rattle.flat_reif.specs.States.{state}
use Rattle.flat.specs.Declaring.{MayDeclareCells, AreCellsDeclared}
use Rattle.flat.proofs.Stepping.{vars_begin, var_name, var_occurring, var_may, vars_next, vars_done}
use Rattle.flat.proofs.variables.declare_vars.Goals as goal

pub vars-init : goal.vars-init
vars-init c = vars_begin (state c.args.flat.now) c.args.names.now c.args.vars.now c.requires.state c.requires.names c.requires.sound c.requires.may

pub text-x-requires : goal.text-x-requires
text-x-requires c = var_name (state c.args.flat.now) (state c.vars.flat) c.args.names.now c.args.vars.now c.vars.m-index c.m-item.result _ c.vars-test.true c.m-item.is c.vars.invariant

pub declare_cells-requires-clause-state : goal.declare_cells-requires-clause-state
declare_cells-requires-clause-state c = c.vars.invariant.left.state

pub declare_cells-requires-clause-occurring : goal.declare_cells-requires-clause-occurring
declare_cells-requires-clause-occurring c = subst (λ cs. AreOccurring c.m-item.result.opt (map var_cell cs)) (sym c.as_slice.ensures.value) (var_occurring (state c.args.flat.now) (state c.vars.flat) c.args.names.now c.args.vars.now c.vars.m-index c.m-item.result _ c.vars-test.true c.m-item.is c.vars.invariant)

pub declare_cells-requires-clause-may : goal.declare_cells-requires-clause-may
declare_cells-requires-clause-may c = subst₂ (λ x cs. MayDeclareCells (state c.vars.flat) (model_var c.m-item.result) x (map var_cell cs)) (sym c.text-x.ensures) (sym c.as_slice.ensures.value) (var_may (state c.args.flat.now) (state c.vars.flat) c.args.names.now c.args.vars.now c.vars.m-index c.m-item.result _ c.vars-test.true c.m-item.is c.vars.invariant)

pub vars-preserved : goal.vars-preserved
vars-preserved c = vars_next (state c.args.flat.now) (state c.vars.flat) c.args.names.now c.args.vars.now c.vars.m-index c.m-item.result _ c.vars-test.true c.m-item.is c.vars.invariant (state c.declare_cells.new.flat) (subst₂ (λ x cs. AreCellsDeclared (state c.vars.flat) (state c.declare_cells.new.flat) (model_var c.m-item.result) x (map var_cell cs)) c.text-x.ensures c.as_slice.ensures.value c.in-Ok.ensures)

pub returns : goal.returns
returns c = vars_done (state c.args.flat.now) (state c.vars.flat) c.args.names.now c.args.vars.now c.vars.m-index c.vars-test.false c.vars.invariant
