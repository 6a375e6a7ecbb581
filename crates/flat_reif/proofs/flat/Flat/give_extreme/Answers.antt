use Rattle.fz_program.specs.Arguments.{plain, plains}
use Rattle.flat_reif.specs.States.{state, plain_args}
use Rattle.flat_reif.proofs.Given.{on_ok}
use Rattle.flat_reif.proofs.Extremes.{compared_at, extreme_given}
use Rattle.flat_reif.proofs.flat.Flat.give_extreme.Goals as goal

pub made_of_extreme-requires : goal.made_of_extreme-requires
made_of_extreme-requires c = compared_at (state c.args.self.now) c.args.id c.args.n.now c.requires.state c.requires.ready.at_id c.args.side c.requires.kind (plains c.args.items.items) c.requires.items c.requires.some

pub returns : goal.returns
returns c = on_ok c.put.result _ _ (extreme_given (state c.args.self.now) c.args.id c.args.n.now c.requires.state c.requires.ready c.args.side c.requires.kind c.made_of_extreme.new.build (plains c.args.items.items) (plain c.in-Ok.x) (plain_args c.put.new.args.items) c.requires.items c.in-Ok.ensures.makes) c.put.ensures
