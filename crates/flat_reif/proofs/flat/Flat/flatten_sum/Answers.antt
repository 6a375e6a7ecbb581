use Rattle.fz_program.specs.Arguments.{plain}
use Rattle.flat_reif.specs.States.{state, plain_args}
use Rattle.flat_reif.proofs.Given.{have_sum, operands_sum, sum_given, on_ok}
use Rattle.flat_reif.proofs.flat.Flat.flatten_sum.Goals as goal

pub argument-requires : goal.argument-requires
argument-requires c = (have_sum (state c.args.self.now) c.args.id c.args.n.now c.requires.state c.requires.ready c.requires.kind).a

pub argument-requires-2 : goal.argument-requires-2
argument-requires-2 c = (have_sum (state c.args.self.now) c.args.id c.args.n.now c.requires.state c.requires.ready c.requires.kind).b

pub made_of_sum-requires : goal.made_of_sum-requires
made_of_sum-requires c = operands_sum (state c.args.self.now) c.args.id c.args.n.now c.requires.state c.requires.ready c.requires.kind (plain c.in-Ok.x) (plain c.in-Ok-argument.x) c.in-Ok.ensures c.in-Ok-argument.ensures

pub returns : goal.returns
returns c = on_ok c.put.result _ _ (sum_given (state c.args.self.now) c.args.id c.args.n.now c.requires.state c.requires.ready c.requires.kind (plain c.in-Ok.x) (plain c.in-Ok-argument.x) c.made_of_sum.new.build (plain c.in-Ok-made_of_sum.x) (plain_args c.put.new.args.items) c.in-Ok.ensures c.in-Ok-argument.ensures c.in-Ok-made_of_sum.ensures.makes) c.put.ensures
