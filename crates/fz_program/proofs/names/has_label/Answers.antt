use Rattle.std.proofs.Common.{◌≡◌, ◌∙◌, sym, ap, string_bytes, rules}
use Rattle.std.proofs.lemmas.List.{length-map}
use Rattle.std.proofs.lemmas.Slice.Eq.{bytes_eq-Decides}
use Rattle.fz_program.proofs.TestAnswers.{says_true, says_false, denied}
use Rattle.fz_program.proofs.Each.{each_all, loop_more}
use Rattle.fz_program.proofs.Labels.{label_or_is, lacks_label}
use Rattle.fz_program.proofs.names.has_label.Goals as goal

pub returns-then-eq : goal.returns-then-eq
returns-then-eq c =
    let vars = c.args.vars.now in
    let i = c.loop-v.v-index in
    let v = c.v-item.result in
    let x = string_bytes c.args.label.now.text in
    let same = (bytes_eq-Decides (string_bytes v.label.text) x).0 (sym c.eq.ensures ∙ c.if-eq.true) in
    let at = label_or_is vars i x v c.loop-v-test.true ∙ ap (λ w. string_bytes w.label.text) (sym c.v-item.is) ∙ same in
    says_true (i, search (rules, length-map), at)

pub loop-v-preserved : goal.loop-v-preserved
loop-v-preserved c =
    let v = c.v-item.result in
    let x = string_bytes c.args.label.now.text in
    let fails = denied c.eq.result (λ (e : string_bytes v.label.text ≡ x). c.eq.ensures ∙ (bytes_eq-Decides (string_bytes v.label.text) x).1 e) c.if-eq.false in
    loop_more (λ w. string_bytes w.label.text ≡ x → ⊥) c.args.vars.now c.loop-v.v-index v c.loop-v-test.true c.v-item.is c.loop-v.invariant fails

pub returns : goal.returns
returns c =
    let vars = c.args.vars.now in
    let x = string_bytes c.args.label.now.text in
    let none = lacks_label vars x (each_all (λ w. string_bytes w.label.text ≡ x → ⊥) vars c.loop-v.v-index c.loop-v-test.false c.loop-v.invariant) in
    says_false (λ h. none h.0 h.1 h.2)
