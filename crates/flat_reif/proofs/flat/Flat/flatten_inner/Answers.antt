use Rattle.fz_program.specs.Arguments.{plain}
use Rattle.flat_reif.specs.States.{state, plain_args}
use Rattle.flat_reif.proofs.Given.{on_ok}
use Rattle.flat_reif.proofs.Lacking.{lacking_place}
use Rattle.flat_reif.proofs.Folding.{fixed_given}
use Rattle.flat_reif.proofs.flat.Flat.flatten_inner.Goals as goal

pub fixed-requires : goal.fixed-requires
fixed-requires c = lacking_place (state c.args.self.now) c.args.id c.args.n.now c.requires.state c.requires.ready

pub returns-in-Some : goal.returns-in-Some
returns-in-Some c = on_ok c.put.result _ _ (fixed_given (state c.args.self.now) c.args.id c.args.n.now c.requires.state c.requires.ready c.requires.inner (plain c.in-Some.out) (plain_args c.put.new.args.items) c.in-Some.ensures) c.put.ensures
