use Rattle.mz_arena.specs.Instances.{model_var, var_cell}
use Rattle.flat_reif.specs.States.{state}
use Rattle.flat.proofs.Stepping.{single_may, single_done}
use Rattle.flat.proofs.variables.declare_cell.Goals as goal

pub declare_value-requires-clause-may : goal.declare_value-requires-clause-may
declare_value-requires-clause-may c = single_may (model_var c.args.m.now) c.args.x.now c.args.k (var_cell c.args.c.now) (state c.args.flat.now) c.requires.state c.if-m.false c.requires.occurs c.requires.may

pub returns-in-Ok : goal.returns-in-Ok
returns-in-Ok c = single_done (model_var c.args.m.now) c.args.x.now c.args.k (var_cell c.args.c.now) (state c.args.flat.now) c.requires.state c.if-m.false c.requires.occurs c.requires.may (state c.declare_value.new.flat) c.in-Ok.ensures
