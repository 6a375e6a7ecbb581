use Rattle.std.proofs.Common.{◌≡◌, ◌∙◌, ap, refl, rules, sym, to_z, of_z, w64}
use Rattle.std.proofs.lemmas.Int.{to_z-of_z}
use Rattle.mz_eval_comprehensions.specs.declared.types.Members.{Members}
use Rattle.mz_eval_comprehensions.specs.declared.types.Members.TheVariants as members
use Rattle.mz_eval_comprehensions.specs.Views.{member_in}
use Rattle.mz_eval_comprehensions.proofs.TurnLaws.{like_member}
use Rattle.mz_eval_comprehensions.proofs.turns.member.Goals as goal

pub returns-in-All-clause-turn : goal.returns-in-All-clause-turn
returns-in-All-clause-turn c =
    let back : to_z w64 (of_z w64 c.args.n) ≡ c.args.n = to_z-of_z w64 c.args.n (search rules) in
    record {
      same = λ r h. refl;
      is = λ r h. c.sure_turn.ensures r ∙ ap (member_in r c.args.of members.All) back ∙ ap (λ (v : Members). member_in r c.args.of v c.args.n) (sym c.in-All.is);
    }

pub returns-in-Nowhere-clause-turn : goal.returns-in-Nowhere-clause-turn
returns-in-Nowhere-clause-turn c = like_member c.untold_turn.result _ _ c.args.of members.Nowhere c.args.m (to_z w64 (of_z w64 c.args.n)) c.args.n c.in-Nowhere.is (to_z-of_z w64 c.args.n (search rules)) c.untold_turn.ensures.turn

pub returns-in-Of-clause-turn : goal.returns-in-Of-clause-turn
returns-in-Of-clause-turn c = like_member c.told_turn.result _ _ c.args.of (members.Of c.in-Of.s) c.args.m (to_z w64 (of_z w64 c.args.n)) c.args.n c.in-Of.is (to_z-of_z w64 c.args.n (search rules)) c.told_turn.ensures.turn
