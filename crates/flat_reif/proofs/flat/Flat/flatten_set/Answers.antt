use Rattle.fz_program.specs.Arguments.{plain}
use Rattle.flat_reif.specs.States.{state, plain_args}
use Rattle.flat_reif.proofs.Given.{on_ok}
use Rattle.flat_reif.proofs.Fixed.{const_here, set_given}
use Rattle.flat_reif.proofs.flat.Flat.flatten_set.Goals as goal

pub set-requires : goal.set-requires
set-requires c = const_here (state c.args.self.now) c.args.id c.args.n.now c.requires.ready c.requires.kind

pub returns : goal.returns
returns c = on_ok c.put.result _ _ (set_given (state c.args.self.now) c.args.id c.args.n.now c.requires.state c.requires.ready c.requires.kind c.set.result.now (plain c.in-Ok.x) (plain_args c.put.new.args.items) c.set.ensures c.in-Ok.ensures) c.put.ensures
