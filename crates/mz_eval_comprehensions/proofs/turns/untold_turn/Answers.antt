use Rattle.std.proofs.Common.{◌≡◌, ◌∙◌, ap, rules, to_z, of_z, w64}
use Rattle.std.proofs.lemmas.Int.{to_z-of_z}
use Rattle.std.specs.Prelude.{Some}
use Rattle.mz_operations.specs.Arrays.{element_of}
use Rattle.mz_meaning.specs.Cells.{par_value}
use Rattle.mz_meaning.specs.Comprehensions.{if_given}
use Rattle.mz_eval_comprehensions.proofs.TurnLaws.{element_at}
use Rattle.mz_eval_comprehensions.proofs.turns.untold_turn.Goals as goal

pub returns-clause-turn : goal.returns-clause-turn
returns-clause-turn c =
    let back : to_z w64 (of_z w64 c.args.n) ≡ c.args.n = to_z-of_z w64 c.args.n (search rules) in
    record {
      same = c.in_ok-no.ensures.says.same;
      is = λ r h. element_at _ _ _ _ (c.number.ensures r ∙ ap (λ k. par_value (element_of c.args.of k)) back) (ap (λ b. Some (if_given r.mode b)) (c.in_ok-no.ensures.says.tells r h));
    }
