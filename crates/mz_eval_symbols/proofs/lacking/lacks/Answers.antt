use Rattle.std.proofs.Common.{◌++◌, ◌∷◌, [], ◌∙◌, subst, sym}
use Rattle.std.specs.Prelude.{MatchOption}
use Rattle.std.proofs.lemmas.List.{nil_from_length}
use Rattle.mz_eval_symbols.specs.StepsLacking.{AllHold}
use Rattle.mz_eval_symbols.proofs.LackingLaws.{first_lacks, none_open}
use Rattle.mz_eval_symbols.proofs.lacking.lacks.Goals as goal

pub loop-turn-init : goal.loop-turn-init
loop-turn-init c = first_lacks c.args.nodes.now c.args.o c.args.x c.new-claims.result.items c.push.new.self.items c.new-claims.ensures.items c.in_ok-push.ensures.items

pub loop-turn-preserved : goal.loop-turn-preserved
loop-turn-preserved c = λ all.
    let step = subst (λ v. MatchOption v (Unit {0}) (λ x. AllHold c.args.nodes.now x.items → AllHold c.args.nodes.now (c.pop.new.self.items ++ c.in-Some.c ∷ []))) c.in-Some-found.is c.in_ok-found.ensures in
    c.loop-turn.invariant (subst (AllHold c.args.nodes.now) (sym c.in-Some.ensures.items) (step all))

pub returns-in_default : goal.returns-in_default
returns-in_default c q = c.loop-turn.invariant (none_open c.args.nodes.now c.loop-turn.claims.items (nil_from_length c.loop-turn.claims.items (sym c.loop-turn.claims.ok.0 ∙ c.in_default.ensures.cases.0)))
