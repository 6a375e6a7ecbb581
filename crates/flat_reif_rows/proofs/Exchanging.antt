-- A product with its factors exchanged.
use Rattle.std.proofs.Common.{◌≡◌, ℤ, ◌*ℤ◌, List, [], ◌∷◌, Option, Some, None, IsSome, refl, sym, ap, ap₂, subst, ◌∙◌, arith}
use Rattle.std.specs.Int.{int_min, int_max}
use Rattle.std.proofs.Math.IntN.{*ℤ_comm}
use Rattle.std.proofs.lemmas.Int.{ints, clamps}
use Rattle.mz_interval.specs.Ends.{Ends, if_in_limit}
use Rattle.mz_interval.specs.Rows.{product_of}
use Rattle.mz_operations.specs.declared.row.Arith.TheVariants as arith_op
use Rattle.mz_operations.specs.Bounds.{arith_ends}
use Rattle.mz_operations.specs.Numbers.{computed}
use Rattle.mz_arena.specs.declared.node.NodeKind.TheVariants.{Mul}
use Rattle.mz_arena.specs.Values as terms
use Rattle.mz_arena.specs.Values.{Term, arith_term, as_number}
use Rattle.std.specs.Option.{option_map}
use Rattle.mz_operations.specs.Views.{◌>>=◌}
use Rattle.mz_arena.specs.Extents.{Known, whole, as_whole, arith_bounds}
use Rattle.fz_program.specs.Arguments.{Plain}
use Rattle.fz_program.specs.Values.{Values}
use Rattle.fz_program.specs.Flat.{Variable, Program, plain_value}
use Rattle.flat_reif_rows.specs.Standing.{seen, Suits, extent_over}
use Rattle.flat_reif_rows.specs.Making.{AreOperands, HasValue, Makes}
use Rattle.flat_reif_rows.proofs.Given.{grows_where}
use Rattle.flat_reif_rows.proofs.NumberRows.{on_two}

-- ---- bounds

least_of_four : (a b c d : ℤ) → int_min (int_min a b) (int_min c d) ≡ int_min (int_min a c) (int_min b d)
least_of_four a b c d = omega (arith, ints, clamps)

greatest_of_four : (a b c d : ℤ) → int_max (int_max a b) (int_max c d) ≡ int_max (int_max a c) (int_max b d)
greatest_of_four a b c d = omega (arith, ints, clamps)

product_exchanged : (e f : Ends) → product_of e f ≡ product_of f e
product_exchanged e f =
    let w = *ℤ_comm e.0 f.0 in
    let x = *ℤ_comm e.1 f.0 in
    let y = *ℤ_comm e.0 f.1 in
    let z = *ℤ_comm e.1 f.1 in
    let low = least_of_four (e.0 *ℤ f.0) (e.0 *ℤ f.1) (e.1 *ℤ f.0) (e.1 *ℤ f.1) ∙ ap₂ (λ a b. int_min a b) (ap₂ (λ a b. int_min a b) w x) (ap₂ (λ a b. int_min a b) y z) in
    let high = greatest_of_four (e.0 *ℤ f.0) (e.0 *ℤ f.1) (e.1 *ℤ f.0) (e.1 *ℤ f.1) ∙ ap₂ (λ a b. int_max a b) (ap₂ (λ a b. int_max a b) w x) (ap₂ (λ a b. int_max a b) y z) in
    ap₂ (λ a b. (a, b)) low high

bounds_exchanged : (x y : Option Ends) → arith_bounds arith_op.Mul x y ≡ arith_bounds arith_op.Mul y x
unfolding arith_ends
bounds_exchanged None None = refl
bounds_exchanged None (Some f) = refl
bounds_exchanged (Some e) None = refl
bounds_exchanged (Some e) (Some f) = ap if_in_limit (product_exchanged e f)

extent_exchanged : (x y : Known) → extent_over Mul (x ∷ y ∷ []) ≡ extent_over Mul (y ∷ x ∷ [])
extent_exchanged x y = ap (option_map whole) (bounds_exchanged (as_whole x) (as_whole y))

-- ---- values

number_exchanged : (x y : Option ℤ) → (x >>= λ i. y >>= λ j. computed arith_op.Mul i j >>= λ n. Some (terms.number n)) ≡ (y >>= λ i. x >>= λ j. computed arith_op.Mul i j >>= λ n. Some (terms.number n))
unfolding computed
number_exchanged None None = refl
number_exchanged None (Some j) = refl
number_exchanged (Some i) None = refl
number_exchanged (Some i) (Some j) = ap (λ n. Some (terms.number n)) (*ℤ_comm i j)

term_exchanged : (x y : Term) → arith_term arith_op.Mul x y ≡ arith_term arith_op.Mul y x
unfolding arith_term
term_exchanged x y = number_exchanged (as_number x) (as_number y)

-- ---- nodes

pub exchanged_operands : (vs : List Variable) (p q : Plain) → AreOperands vs Mul (p ∷ q ∷ []) → AreOperands vs Mul (q ∷ p ∷ [])
exchanged_operands vs p q o = on_two vs p q (λ xs. IsSome (extent_over Mul xs) → AreOperands vs Mul (q ∷ p ∷ []))
    (λ x y u w s. record { bounds = y ∷ x ∷ []; suit = (w, (u, tt)); known = subst (λ (z : Known). IsSome z) (extent_exchanged x y) s }) o.bounds o.suit o.known

pub exchanged_makes : (old new : Program) (p q out : Plain) → Makes old new Mul (q ∷ p ∷ []) out → Makes old new Mul (p ∷ q ∷ []) out
exchanged_makes old new p q out m =
    let same : (f : Values) → arith_term arith_op.Mul (Some (seen (plain_value f p))) (Some (seen (plain_value f q))) ≡ arith_term arith_op.Mul (Some (seen (plain_value f q))) (Some (seen (plain_value f p))) = λ f. term_exchanged (Some (seen (plain_value f p))) (Some (seen (plain_value f q))) in
    record {
      grows = λ v. grows_where old new (HasValue v Mul (q ∷ p ∷ [])) (HasValue v Mul (p ∷ q ∷ [])) (m.grows v) (λ f s h. record { result = h.result; is = sym (same f) ∙ h.is });
      place = m.place;
      suits = λ bounds u s. on_two old.vars p q (λ xs. IsSome (extent_over Mul xs) → Suits new.vars out (extent_over Mul xs))
          (λ x y a b k. subst (Suits new.vars out) (extent_exchanged y x) (m.suits (y ∷ x ∷ []) (b, (a, tt)) (subst (λ (z : Known). IsSome z) (extent_exchanged x y) k))) bounds u s;
      value = λ v f s. same f ∙ m.value v f s;
      made = m.made;
    }
