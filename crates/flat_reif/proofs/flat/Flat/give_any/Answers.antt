use Rattle.fz_program.specs.Arguments.{plain}
use Rattle.flat_reif.specs.States.{state, plain_args}
use Rattle.flat_reif.proofs.Given.{on_ok}
use Rattle.flat_reif.proofs.Lacking.{lacking_place, lacking_alone, any_given}
use Rattle.flat_reif.proofs.flat.Flat.give_any.Goals as goal

pub any-requires-clause-place : goal.any-requires-clause-place
any-requires-clause-place c = lacking_place (state c.args.self.now) c.args.id c.args.n.now c.requires.state c.requires.ready

pub any-requires-clause-single : goal.any-requires-clause-single
any-requires-clause-single c = lacking_alone (state c.args.self.now) c.args.id c.args.n.now c.requires.state c.requires.ready c.requires.kind

pub returns : goal.returns
returns c = on_ok c.put.result _ _ (any_given (state c.args.self.now) c.args.id c.args.n.now c.requires.state c.requires.ready c.requires.kind c.requires.unmet (plain c.in-Ok.x) (plain_args c.put.new.args.items) c.in-Ok.ensures) c.put.ensures
