use Rattle.fz_program.specs.Arguments.{argument}
use Rattle.flat_reif.specs.States.{state, plain_args}
use Rattle.flat_reif.proofs.Given.{on_ok}
use Rattle.flat_reif.proofs.Choosing.{const_at, choice_given}
use Rattle.flat_reif.proofs.flat.Flat.flatten_choice.Goals as goal

pub set-requires : goal.set-requires
set-requires c = const_at (state c.args.self.now) c.args.id c.args.n.now c.requires.state c.requires.node c.requires.none c.requires.choice

pub returns : goal.returns
returns c = on_ok c.put.result _ _ (choice_given (state c.args.self.now) c.args.id c.args.n.now c.requires.state c.requires.node c.requires.none c.requires.choice c.set.result.now c.in-Ok.x c.introduce.new.self (argument c.in-Ok-introduce.x) (plain_args c.put.new.args.items) c.set.ensures c.in-Ok.ensures.is c.in-Ok-introduce.ensures.added c.in-Ok-introduce.ensures.declares) c.put.ensures
