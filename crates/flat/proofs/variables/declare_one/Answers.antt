use Rattle.fz_program.specs.Flat.{variable}
use Rattle.flat_reif.specs.States.{state}
use Rattle.flat.proofs.Stepping.{one_declared}
use Rattle.flat.proofs.variables.declare_one.Goals as goal

pub returns : goal.returns
returns c = one_declared (state c.args.flat.now) (state c.declare.new.self) c.args.id (variable c.args.var) c.in-Ok.ensures
