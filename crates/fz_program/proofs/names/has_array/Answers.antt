use Rattle.std.proofs.Common.{◌≡◌, ◌∙◌, sym, ap, string_bytes, rules}
use Rattle.std.proofs.lemmas.List.{length-map}
use Rattle.std.proofs.lemmas.Slice.Eq.{bytes_eq-Decides}
use Rattle.fz_program.proofs.TestAnswers.{says_true, says_false, denied}
use Rattle.fz_program.proofs.Each.{each_all, loop_more}
use Rattle.fz_program.proofs.Labels.{array_label_is, lacks_array_label}
use Rattle.fz_program.proofs.names.has_array.Goals as goal

pub returns-then-eq : goal.returns-then-eq
returns-then-eq c =
    let vars = c.args.arrays.now in
    let i = c.loop-a.a-index in
    let v = c.a-item.result in
    let x = string_bytes c.args.label.now.text in
    let same = (bytes_eq-Decides (string_bytes v.label.text) x).0 (sym c.eq.ensures ∙ c.if-eq.true) in
    let at = array_label_is vars i x v c.loop-a-test.true ∙ ap (λ w. string_bytes w.label.text) (sym c.a-item.is) ∙ same in
    says_true (i, search (rules, length-map), at)

pub loop-a-preserved : goal.loop-a-preserved
loop-a-preserved c =
    let v = c.a-item.result in
    let x = string_bytes c.args.label.now.text in
    let fails = denied c.eq.result (λ (e : string_bytes v.label.text ≡ x). c.eq.ensures ∙ (bytes_eq-Decides (string_bytes v.label.text) x).1 e) c.if-eq.false in
    loop_more (λ w. string_bytes w.label.text ≡ x → ⊥) c.args.arrays.now c.loop-a.a-index v c.loop-a-test.true c.a-item.is c.loop-a.invariant fails

pub returns : goal.returns
returns c =
    let vars = c.args.arrays.now in
    let x = string_bytes c.args.label.now.text in
    let none = lacks_array_label vars x (each_all (λ w. string_bytes w.label.text ≡ x → ⊥) vars c.loop-a.a-index c.loop-a-test.false c.loop-a.invariant) in
    says_false (λ h. none h.0 h.1 h.2)
