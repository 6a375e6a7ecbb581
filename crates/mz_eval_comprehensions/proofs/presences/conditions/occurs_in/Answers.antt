use Rattle.std.proofs.Common.{◌≡◌, ◌∙◌, Some, sym, ap, rules, w64}
use Rattle.std.proofs.lemmas.Int.{to_z-of_z}
use Rattle.mz_arena.specs.Values.{member_term, number}
use Rattle.mz_meaning.specs.Runs.{Out}
use Rattle.mz_symbol.specs.Readings.{state_of}
use Rattle.mz_symbol.proofs.ConstantLaws.{out_value, out_state}
use Rattle.mz_eval_comprehensions.specs.Presences.{where_true}
use Rattle.mz_eval_comprehensions.proofs.Occurring.{set_told}
use Rattle.mz_eval_comprehensions.proofs.presences.conditions.occurs_in.Goals as goal

pub returns-clause-means : goal.returns-clause-means
returns-clause-means c r h =
    let y = c.in_ok-id.ensures.means r h in
    let x = c.in_ok-x.ensures.means r (c.in_ok-id.ensures.goes.back r h) in
    let s = c.args.set in
    let is = set_told r s c.args.n c.in_ok-id.id c.in_ok-plain_set.ensures (ap (λ m. member_term (Some (number m)) (r.term s.term)) (sym (to_z-of_z w64 c.args.n (search rules))) ∙ ap (λ t. member_term t (r.term s.term)) (out_value x) ∙ out_value y) in
    ap (λ p. Out p (state_of r c.args.run.now)) is
    ∙ ap (λ t. Out (where_true r c.in_ok-id.id) t) (out_state x ∙ out_state y)
