use Rattle.fz_program.specs.Arguments.{plain, plains}
use Rattle.flat_reif.specs.States.{state, plain_args}
use Rattle.flat_reif.proofs.Given.{on_ok}
use Rattle.flat_reif.proofs.Accesses.{accessed_at, access_given}
use Rattle.flat_reif.proofs.flat.Flat.give_access.Goals as goal

pub made_of_access-requires : goal.made_of_access-requires
made_of_access-requires c = accessed_at (state c.args.self.now) c.args.id c.args.n.now c.requires.state c.requires.ready.at_id c.requires.kind c.args.name (plain c.args.index) (plains c.args.items.items) c.requires.index c.requires.items c.requires.row c.requires.reaches

pub returns : goal.returns
returns c = on_ok c.put.result _ _ (access_given (state c.args.self.now) c.args.id c.args.n.now c.requires.state c.requires.ready c.requires.kind c.made_of_access.new.build c.args.name (plain c.args.index) (plains c.args.items.items) (plain c.in-Ok.x) (plain_args c.put.new.args.items) c.requires.index c.requires.items c.requires.row c.in-Ok.ensures.makes) c.put.ensures
