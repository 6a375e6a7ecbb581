use Rattle.flat_reif.proofs.Declaring.{begun_given}
use Rattle.flat_reif.proofs.flat.Flat.begin.Goals as goal

pub returns-clause-state : goal.returns-clause-state
returns-clause-state c = begun_given c.args.arena c.new.result c.new-2.result.items c.new.ensures c.new-2.ensures.items c.len-count.ensures.arena
