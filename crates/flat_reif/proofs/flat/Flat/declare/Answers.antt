use Rattle.fz_program.specs.Arguments.{argument}
use Rattle.fz_program.specs.Flat.{variable}
use Rattle.flat_reif.specs.States.{state, plain_args}
use Rattle.flat_reif.proofs.Given.{on_ok}
use Rattle.flat_reif.proofs.Declaring.{front_declared}
use Rattle.flat_reif.proofs.flat.Flat.declare.Goals as goal

pub returns : goal.returns
returns c = on_ok c.put.result _ _ (front_declared (state c.args.self.now) c.args.id (variable c.args.var) c.requires.state c.requires.stands c.declare.new.self (argument c.in-Ok.x) (plain_args c.put.new.args.items) c.in-Ok.ensures.added c.in-Ok.ensures.place c.in-Ok.ensures.declares) c.put.ensures
