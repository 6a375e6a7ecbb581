use Rattle.mz_partial.proofs.Saying.{chooses_or}
use Rattle.mz_partial.proofs.flag.unless.Goals as goal

pub returns : goal.returns
returns c = chooses_or c.args.arena.now c.connective.new.arena c.args.c c.in-Some.b c.in_ok-h.h c.args.g c.in-Some.is c.in_ok-h.ensures
