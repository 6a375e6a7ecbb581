use Rattle.fz_program.specs.Arguments.{plain}
use Rattle.flat_reif.specs.States.{state, plain_args}
use Rattle.flat_reif.proofs.Given.{on_ok}
use Rattle.flat_reif.proofs.Branching.{have_three, branches, branches_given}
use Rattle.flat_reif.proofs.flat.Flat.flatten_branches.Goals as goal

pub argument-requires : goal.argument-requires
argument-requires c = (have_three (state c.args.self.now) c.args.id c.args.n.now c.requires.state c.requires.ready c.requires.kind).a

pub argument-requires-2 : goal.argument-requires-2
argument-requires-2 c = (have_three (state c.args.self.now) c.args.id c.args.n.now c.requires.state c.requires.ready c.requires.kind).b

pub argument-requires-3 : goal.argument-requires-3
argument-requires-3 c = (have_three (state c.args.self.now) c.args.id c.args.n.now c.requires.state c.requires.ready c.requires.kind).c

pub made_of_branches-requires : goal.made_of_branches-requires
made_of_branches-requires c = branches (state c.args.self.now) c.args.id c.args.n.now c.requires.state c.requires.ready c.requires.kind c.args.name (plain c.in-Ok.x) (plain c.in-Ok-argument.x) (plain c.in-Ok-argument-2.x) c.in-Ok.ensures c.in-Ok-argument.ensures c.in-Ok-argument-2.ensures c.requires.row

pub returns : goal.returns
returns c = on_ok c.put.result _ _ (branches_given (state c.args.self.now) c.args.id c.args.n.now c.requires.state c.requires.ready c.requires.kind c.made_of_branches.new.build c.args.name (plain c.in-Ok.x) (plain c.in-Ok-argument.x) (plain c.in-Ok-argument-2.x) (plain c.in-Ok-made_of_branches.x) (plain_args c.put.new.args.items) c.in-Ok.ensures c.in-Ok-argument.ensures c.in-Ok-argument-2.ensures c.requires.row c.in-Ok-made_of_branches.ensures.makes) c.put.ensures
