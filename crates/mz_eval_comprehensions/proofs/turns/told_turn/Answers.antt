use Rattle.std.proofs.Common.{◌≡◌, ◌∙◌, ap, sym, rules, to_z, of_z, w64}
use Rattle.std.proofs.lemmas.Int.{to_z-of_z}
use Rattle.std.specs.Prelude.{Some}
use Rattle.mz_operations.specs.Arrays.{element_of}
use Rattle.mz_meaning.specs.Cells.{par_value}
use Rattle.mz_meaning.specs.Comprehensions.{if_given, set_has}
use Rattle.mz_symbol.proofs.ConstantLaws.{out_value, out_state}
use Rattle.mz_symbol_rows.specs.RowValues.{argument}
use Rattle.mz_eval_comprehensions.proofs.TurnLaws.{element_at}
use Rattle.mz_eval_comprehensions.proofs.turns.told_turn.Goals as goal

pub returns-clause-turn : goal.returns-clause-turn
returns-clause-turn c =
    let back : to_z w64 (of_z w64 c.args.n) ≡ c.args.n = to_z-of_z w64 c.args.n (search rules) in
    record {
      same = λ r h. c.draw.ensures.same r ∙ out_state (c.in-Ok.ensures.means r h);
      is = λ r h. element_at _ _ _ _ (c.number.ensures r ∙ ap (λ k. par_value (element_of c.args.of k)) back) (sym (out_value (c.in-Ok.ensures.means r h)) ∙ ap (λ k. Some (if_given r.mode (set_has (argument r c.args.s) k))) back);
    }
