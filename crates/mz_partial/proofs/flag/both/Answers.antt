use Rattle.mz_partial.proofs.Saying.{joins_none, joins_both}
use Rattle.mz_partial.proofs.flag.both.Goals as goal

pub returns-in_default : goal.returns-in_default
returns-in_default c = joins_none c.args.arena.now c.args.f c.args.g c.requires.arena c.in_default.is

pub returns : goal.returns
returns c = joins_both c.args.arena.now c.connective.new.arena c.args.f c.args.g c.in-Some.a c.in-Some-g.b c.in_ok-h.h c.in-Some.is c.in-Some-g.is c.in_ok-h.ensures
