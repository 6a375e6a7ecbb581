use Rattle.std.proofs.Common.{subst, sym}
use Rattle.flat_reif.specs.States.{state}
use Rattle.flat.proofs.Fronting.{may_vars, may_arrays, elements_of, fronted}
use Rattle.flat.proofs.front.declare_front.Goals as goal

pub declare_vars-requires-clause-state : goal.declare_vars-requires-clause-state
declare_vars-requires-clause-state c = c.requires.state

pub declare_vars-requires-clause-names : goal.declare_vars-requires-clause-names
declare_vars-requires-clause-names c = c.requires.front.named.names

pub declare_vars-requires-clause-sound : goal.declare_vars-requires-clause-sound
declare_vars-requires-clause-sound c = c.requires.front.vars

pub declare_vars-requires-clause-may : goal.declare_vars-requires-clause-may
declare_vars-requires-clause-may c = may_vars (state c.args.flat.now) c.args.names.now c.args.vars.now c.requires

pub add_arrays-requires-clause-state : goal.add_arrays-requires-clause-state
add_arrays-requires-clause-state c = c.in-Ok.ensures.state

pub add_arrays-requires-clause-names : goal.add_arrays-requires-clause-names
add_arrays-requires-clause-names c = c.requires.front.named.names

pub add_arrays-requires-clause-have : goal.add_arrays-requires-clause-have
add_arrays-requires-clause-have c = elements_of (state c.args.flat.now) c.args.names.now c.args.vars.now c.requires (state c.declare_vars.new.flat) c.in-Ok.ensures

pub add_arrays-requires-clause-may : goal.add_arrays-requires-clause-may
add_arrays-requires-clause-may c = may_arrays (state c.args.flat.now) c.args.names.now c.args.vars.now c.requires (state c.declare_vars.new.flat) c.in-Ok.ensures

pub returns : goal.returns
returns c = fronted (state c.args.flat.now) c.args.names.now c.args.vars.now c.requires (state c.declare_vars.new.flat) c.in-Ok.ensures (state c.add_arrays.new.flat) c.in-Ok-add_arrays.ensures
