use Rattle.mz_arena.specs.Instances.{model_var, var_cell}
use Rattle.flat_reif.specs.States.{state}
use Rattle.flat.proofs.Stepping.{occurrence_may, value_may, option_done, no_option}
use Rattle.flat.proofs.variables.declare_option.Goals as goal

pub declare_occurrence-requires-clause-may : goal.declare_occurrence-requires-clause-may
declare_occurrence-requires-clause-may c = occurrence_may (model_var c.args.m.now) c.args.x.now c.args.k (var_cell c.args.c.now) (state c.args.flat.now) c.requires.state c.requires.opt c.in-Some.id c.in-Some.is c.requires.may

pub declare_value-requires-clause-may : goal.declare_value-requires-clause-may
declare_value-requires-clause-may c = value_may (model_var c.args.m.now) c.args.x.now c.args.k (var_cell c.args.c.now) (state c.args.flat.now) c.requires.state c.requires.opt c.in-Some.id c.in-Some.is c.requires.may (state c.declare_occurrence.new.flat) c.in-Ok.ensures

pub returns : goal.returns
returns c = option_done (model_var c.args.m.now) c.args.x.now c.args.k (var_cell c.args.c.now) (state c.args.flat.now) c.requires.state c.requires.opt c.in-Some.id c.in-Some.is c.requires.may (state c.declare_occurrence.new.flat) c.in-Ok.ensures (state c.declare_value.new.flat) c.in-Ok-declare_value.ensures

pub unreachable-requires : goal.unreachable-requires
unreachable-requires c = no_option (model_var c.args.m.now) (var_cell c.args.c.now) c.requires.opt c.requires.occurs c.in-None.is
