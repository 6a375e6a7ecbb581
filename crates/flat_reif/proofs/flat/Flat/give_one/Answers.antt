use Rattle.fz_program.specs.Arguments.{plain}
use Rattle.flat_reif.specs.States.{state, plain_args}
use Rattle.flat_reif.proofs.Given.{operands_one, one_given, on_ok}
use Rattle.flat_reif.proofs.flat.Flat.give_one.Goals as goal

pub made_of_one-requires-clause-operands : goal.made_of_one-requires-clause-operands
made_of_one-requires-clause-operands c = operands_one (state c.args.self.now) c.args.id c.args.n.now c.requires.state c.requires.ready c.args.name (plain c.args.a) c.requires.row c.requires.child

pub returns : goal.returns
returns c = on_ok c.put.result _ _ (one_given (state c.args.self.now) c.args.id c.args.n.now c.requires.state c.requires.ready c.args.name (plain c.args.a) c.made_of_one.new.build (plain c.in-Ok.x) (plain_args c.put.new.args.items) c.requires.row c.requires.child c.in-Ok.ensures.makes) c.put.ensures
