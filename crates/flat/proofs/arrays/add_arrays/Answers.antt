use Rattle.std.proofs.Common.{subst, sym}
use Rattle.mz_arena.specs.Instances.{model_var}
use Rattle.flat_reif.specs.States.{state}
use Rattle.flat.specs.Arrays.{MayAddArrays, AreAdded, arrays_at}
use Rattle.flat.proofs.Stepping.{arrays_begin, array_name, array_elements, array_may, arrays_next, arrays_done}
use Rattle.flat.proofs.arrays.add_arrays.Goals as goal

pub vars-init : goal.vars-init
vars-init c = arrays_begin (state c.args.flat.now) c.args.names.now c.args.vars.now c.requires.state c.requires.names c.requires.have c.requires.may

pub text-x-requires : goal.text-x-requires
text-x-requires c = array_name (state c.args.flat.now) (state c.vars.flat) c.args.names.now c.args.vars.now c.vars.m-index c.m-item.result _ c.vars-test.true c.m-item.is c.vars.invariant

pub add_var_arrays-requires-clause-state : goal.add_var_arrays-requires-clause-state
add_var_arrays-requires-clause-state c = c.vars.invariant.left.state

pub add_var_arrays-requires-clause-have : goal.add_var_arrays-requires-clause-have
add_var_arrays-requires-clause-have c = array_elements (state c.args.flat.now) (state c.vars.flat) c.args.names.now c.args.vars.now c.vars.m-index c.m-item.result _ c.vars-test.true c.m-item.is c.vars.invariant

pub add_var_arrays-requires-clause-may : goal.add_var_arrays-requires-clause-may
add_var_arrays-requires-clause-may c = subst (λ x. MayAddArrays (state c.vars.flat) (arrays_at (state c.vars.flat).args x (model_var c.m-item.result))) (sym c.text-x.ensures) (array_may (state c.args.flat.now) (state c.vars.flat) c.args.names.now c.args.vars.now c.vars.m-index c.m-item.result _ c.vars-test.true c.m-item.is c.vars.invariant)

pub vars-preserved : goal.vars-preserved
vars-preserved c = arrays_next (state c.args.flat.now) (state c.vars.flat) c.args.names.now c.args.vars.now c.vars.m-index c.m-item.result _ c.vars-test.true c.m-item.is c.vars.invariant (state c.add_var_arrays.new.flat) (subst (λ x. AreAdded (state c.vars.flat) (state c.add_var_arrays.new.flat) (arrays_at (state c.vars.flat).args x (model_var c.m-item.result))) c.text-x.ensures c.in-Ok.ensures)

pub returns : goal.returns
returns c = arrays_done (state c.args.flat.now) (state c.vars.flat) c.args.names.now c.args.vars.now c.vars.m-index c.vars-test.false c.vars.invariant
