use Rattle.fz_program.specs.Arguments.{plain}
use Rattle.flat_reif.specs.States.{state, plain_args}
use Rattle.flat_reif.proofs.Given.{on_ok}
use Rattle.flat_reif.proofs.Fixed.{have_guarded, guard_given}
use Rattle.flat_reif.proofs.flat.Flat.flatten_guard.Goals as goal

pub argument-requires : goal.argument-requires
argument-requires c = have_guarded (state c.args.self.now) c.args.id c.args.n.now c.requires.state c.requires.ready c.requires.kind

pub returns : goal.returns
returns c = on_ok c.put.result _ _ (guard_given (state c.args.self.now) c.args.id c.args.n.now c.requires.state c.requires.ready c.requires.kind (plain c.in-Ok.x) (plain_args c.put.new.args.items) c.in-Ok.ensures) c.put.ensures
