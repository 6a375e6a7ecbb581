use Rattle.mz_partial.proofs.Filling.{pair_some, pair_none}
use Rattle.mz_partial.proofs.memo.paired.Goals as goal

pub returns-in_default : goal.returns-in_default
returns-in_default c = pair_none c.args.arena.now c.always.new.arena c.args.id c.args.p c.in_ok-yes.yes c.requires.arena c.requires.part c.in_default.is c.in_ok-yes.ensures

pub returns : goal.returns
returns c = pair_some c.args.arena.now c.args.id c.args.p c.in-Some.defined c.requires.arena c.requires.part c.in-Some.is
