use Rattle.std.proofs.Common.{◌≡◌, ◌∙◌, ap, refl, rules, to_z, of_z, w64}
use Rattle.std.proofs.lemmas.Int.{to_z-of_z}
use Rattle.mz_operations.specs.Arrays.{element_of}
use Rattle.mz_meaning.specs.Cells.{par_value}
use Rattle.mz_eval_comprehensions.proofs.TurnLaws.{element_at}
use Rattle.mz_eval_comprehensions.proofs.turns.sure_turn.Goals as goal

pub returns : goal.returns
returns c r =
    let back : to_z w64 (of_z w64 c.args.n) ≡ c.args.n = to_z-of_z w64 c.args.n (search rules) in
    element_at _ _ _ _ (c.number.ensures r ∙ ap (λ k. par_value (element_of c.args.of k)) back) refl
