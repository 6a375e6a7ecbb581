use Rattle.mz_partial.proofs.Saying.{conjoins_some, flag_by}
use Rattle.mz_partial.proofs.flag.conjoin.Goals as goal

pub returns : goal.returns
returns c = conjoins_some c.args.arena.now c.connective.new.arena c.args.flag c.args.t c.in-Some.d c.in_ok-r.r c.in-Some.is (flag_by c.args.arena.now c.args.flag c.in-Some.d c.in-Some.is c.requires.flag) c.in_ok-r.ensures
