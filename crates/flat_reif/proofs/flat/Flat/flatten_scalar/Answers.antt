use Rattle.fz_program.specs.Arguments.{plain}
use Rattle.flat_reif.specs.States.{state, plain_args}
use Rattle.flat_reif.proofs.Given.{on_ok}
use Rattle.flat_reif.proofs.Fixed.{scalar_given}
use Rattle.flat_reif.proofs.flat.Flat.flatten_scalar.Goals as goal

pub returns : goal.returns
returns c = on_ok c.put.result _ _ (scalar_given (state c.args.self.now) c.args.id c.args.n.now c.requires.state c.requires.ready c.requires.kind (plain c.scalar.result) (plain_args c.put.new.args.items) c.scalar.ensures) c.put.ensures
