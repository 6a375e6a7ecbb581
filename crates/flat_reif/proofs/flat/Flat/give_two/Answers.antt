use Rattle.fz_program.specs.Arguments.{plain}
use Rattle.flat_reif.specs.States.{state, plain_args}
use Rattle.flat_reif.proofs.Given.{operands_two, two_given, on_ok}
use Rattle.flat_reif.proofs.flat.Flat.give_two.Goals as goal

pub made_of_two-requires-clause-operands : goal.made_of_two-requires-clause-operands
made_of_two-requires-clause-operands c = operands_two (state c.args.self.now) c.args.id c.args.n.now c.requires.state c.requires.ready c.args.name (plain c.args.x) (plain c.args.y) c.requires.row c.requires.first c.requires.second

pub returns : goal.returns
returns c = on_ok c.put.result _ _ (two_given (state c.args.self.now) c.args.id c.args.n.now c.requires.state c.requires.ready c.args.name (plain c.args.x) (plain c.args.y) c.made_of_two.new.build (plain c.in-Ok.x) (plain_args c.put.new.args.items) c.requires.row c.requires.first c.requires.second c.in-Ok.ensures.makes) c.put.ensures
