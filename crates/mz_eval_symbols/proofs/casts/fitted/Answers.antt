use Rattle.std.proofs.Common.{subst}
use Rattle.std.specs.Prelude.{MatchOption}
use Rattle.mz_eval_symbols.specs.StepsLacking.{IsRelabel}
use Rattle.mz_eval_symbols.proofs.LackingLaws.{fitted_alike, fitted_same}
use Rattle.mz_eval_symbols.proofs.casts.fitted.Goals as goal

pub returns-then-is_base : goal.returns-then-is_base
returns-then-is_base c t h = fitted_same t c.args.s

pub returns-in-None : goal.returns-in-None
returns-in-None c t h = fitted_same t c.args.s

pub returns-in-Some : goal.returns-in-Some
returns-in-Some c t h =
    let f = subst (λ o. MatchOption o (Unit {0}) (IsRelabel c.args.nodes.now c.args.s)) c.in-Some.is c.in_ok-alike.ensures in
    fitted_alike t c.args.s c.in-Some.x (f t h)
