use Rattle.fz_program.specs.Arguments.{plain}
use Rattle.flat_reif.specs.States.{state, plain_args}
use Rattle.flat_reif.proofs.Given.{have_one, on_ok}
use Rattle.flat_reif.proofs.Folding.{fold_one_given}
use Rattle.flat_reif.proofs.flat.Flat.flatten_one.Goals as goal

pub argument-requires : goal.argument-requires
argument-requires c = have_one (state c.args.self.now) c.args.id c.args.n.now c.requires.state c.requires.ready c.args.name c.requires.row

pub returns-in-Some : goal.returns-in-Some
returns-in-Some c = on_ok c.put.result _ _ (fold_one_given (state c.args.self.now) c.args.id c.args.n.now c.requires.state c.requires.ready c.args.name c.requires.row (plain c.in-Ok.x) (plain c.in-Some.out) (plain_args c.put.new.args.items) c.in-Ok.ensures c.in-Some.ensures) c.put.ensures
