use Rattle.std.proofs.Common.{◌≡◌, ◌∙◌, nat_abs, Some, refl, sym, ap, rules}
use Rattle.std.proofs.lemmas.Int.{to_z-of_z}
use mir.Syntax.{w64}
use mir.Val.{of_z, to_z}
use Rattle.mz_value.specs.Contents as values
use Rattle.mz_eval_global_terms.proofs.tables.automaton_in.Goals as goal

pub returns : goal.returns
returns c =
    let states : to_z w64 (of_z w64 c.in_ok-states.states) ≡ c.in_ok-states.states = to_z-of_z w64 c.in_ok-states.states (search rules) in
    let letters : to_z w64 (of_z w64 c.in_ok-letters.letters) ≡ c.in_ok-letters.letters = to_z-of_z w64 c.in_ok-letters.letters (search rules) in
    let start : to_z w64 (of_z w64 c.in_ok-start.start) ≡ c.in_ok-start.start = to_z-of_z w64 c.in_ok-start.start (search rules) in
    record {
      states = λ r. c.in_ok-states.ensures.value r ∙ ap (λ n. Some (values.int n)) (sym states);
      letters = λ r. c.in_ok-letters.ensures.value r ∙ ap (λ n. Some (values.int n)) (sym letters);
      steps = c.in_ok-steps.ensures.value;
      start = λ r. c.in_ok-start.ensures r ∙ ap (λ n. Some (values.int n)) (sym start);
      accepting = refl;
      state_count = ap nat_abs states ∙ c.in_ok-states.ensures.size;
      letter_count = ap nat_abs letters ∙ c.in_ok-letters.ensures.size;
      fits = c.are_steps.ensures c.if-not-are_steps.false;
    }
