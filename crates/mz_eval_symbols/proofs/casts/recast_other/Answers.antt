use Rattle.std.proofs.Common.{subst}
use Rattle.std.specs.Prelude.{MatchOption}
use Rattle.mz_eval_symbols.specs.StepsLacking.{IsRelabel}
use Rattle.mz_eval_symbols.proofs.LackingLaws.{recast_alike}
use Rattle.mz_eval_symbols.proofs.casts.recast_other.Goals as goal

pub returns-in-Some-clause-cast : goal.returns-in-Some-clause-cast
returns-in-Some-clause-cast c r h =
    let f = subst (λ o. MatchOption o (Unit {0}) (IsRelabel c.arena.result.now c.args.s)) c.in-Some.is c.in_ok-alike.ensures in
    recast_alike r c.args.run.now c.args.b c.args.s c.in-Some.x c.arena.result.now c.arena.ensures.nodes f h
