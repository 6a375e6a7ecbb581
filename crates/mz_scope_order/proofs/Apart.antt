-- Numbers in an order: each is counted, and none stands twice.
use Rattle.std.proofs.Common.{◌≡◌, ◌∙◌, ◌⊎◌, ℕ, zero, suc, ◌+◌, ◌<◌, inl, inr, List, [], ◌∷◌, ◌++◌, refl, ap, sym, subst, length, set, arith}
use Rattle.std.proofs.lemmas.List.{get_or-set_same, get_or-set_other, length-set}
use Rattle.mz_graph.specs.Graph.{IsIn, number_of}
use Rattle.mz_graph.specs.Order.{Continues, over, turn, IsOrder}
use Rattle.mz_graph.proofs.Membership.{in_front, in_last, same_or_not}
use Rattle.mz_scope_order.specs.StepsSubjects.{StandOnce}

-- numbers below a limit, none of them done before, each once
abbrev pub AreTurns : ℕ → List ℕ → List ℕ → Type 0
AreTurns till done [] = Unit {0}
AreTurns till done (x ∷ xs) = (x < till) × (IsIn x done → ⊥) × AreTurns till (done ++ x ∷ []) xs

pub turns : {R : ℕ → ℕ → Type 0} {till : ℕ} (done order : List ℕ) → Continues R till done order → AreTurns till done order
turns done [] (over none) = tt
turns done (x ∷ rest) (turn next more) = (next.ready.counted, next.ready.remains, turns (done ++ x ∷ []) rest more)

turn_counted : (till : ℕ) (done order : List ℕ) (x : ℕ) → AreTurns till done order → IsIn x order → x < till
turn_counted till done [] x t a = absurd a
turn_counted till done (y ∷ ys) x t a = elim a [
  | inl e ↦ subst (λ z. z < till) (sym e) t.0
  | inr b ↦ turn_counted till (done ++ y ∷ []) ys x t.2 b
]

pub in_order_counted : {R : ℕ → ℕ → Type 0} (till : ℕ) (order : List ℕ) (x : ℕ) → IsOrder R till order → IsIn x order → x < till
in_order_counted till order x o a = turn_counted till [] order x (turns [] order o) a

turn_within : (till : ℕ) (done order : List ℕ) (j : ℕ) → AreTurns till done order → j < length order → number_of order j < till
turn_within till done [] j t l = absurd (omega (arith, l))
turn_within till done (x ∷ xs) zero t l = t.0
turn_within till done (x ∷ xs) (suc j) t l = turn_within till (done ++ x ∷ []) xs j t.2 (omega (arith, l))

not_done : (till : ℕ) (done order : List ℕ) (j : ℕ) → AreTurns till done order → j < length order → IsIn (number_of order j) done → ⊥
not_done till done [] j t l a = absurd (omega (arith, l))
not_done till done (x ∷ xs) zero t l a = t.1 a
not_done till done (x ∷ xs) (suc j) t l a = not_done till (done ++ x ∷ []) xs j t.2 (omega (arith, l)) (in_front (number_of xs j) done (x ∷ []) a)

turns_apart : (till : ℕ) (done order : List ℕ) (i j : ℕ) → AreTurns till done order → i < length order → j < length order → number_of order i ≡ number_of order j → i ≡ j
turns_apart till done [] i j t l k e = absurd (omega (arith, l))
turns_apart till done (x ∷ xs) zero zero t l k e = refl
turns_apart till done (x ∷ xs) zero (suc j) t l k e = absurd (not_done till (done ++ x ∷ []) xs j t.2 (omega (arith, k)) (subst (λ z. IsIn z (done ++ x ∷ [])) e (in_last x done)))
turns_apart till done (x ∷ xs) (suc i) zero t l k e = absurd (not_done till (done ++ x ∷ []) xs i t.2 (omega (arith, l)) (subst (λ z. IsIn z (done ++ x ∷ [])) (sym e) (in_last x done)))
turns_apart till done (x ∷ xs) (suc i) (suc j) t l k e = ap suc (turns_apart till (done ++ x ∷ []) xs i j t.2 (omega (arith, l)) (omega (arith, k)) e)

pub order_apart : {R : ℕ → ℕ → Type 0} (till : ℕ) (order : List ℕ) → IsOrder R till order → StandOnce till order
order_apart till order o =
    let t = turns [] order o in
    record { within = λ j l. turn_within till [] order j t l; apart = λ i j l k e. turns_apart till [] order i j t l k e }

-- places that are written one after the other

pub record ArePlacesTill (count : ℕ) (order at : List ℕ) (i : ℕ) : Type 0 where
  pub sized : length at ≡ count
  pub is : (j : ℕ) → j < i → number_of at (number_of order j) ≡ j

place_case : (order at : List ℕ) (i j : ℕ) → ((j ≡ i) ⊎ (j ≡ i → ⊥)) → (j < i → number_of at (number_of order j) ≡ j) → (number_of order j ≡ number_of order i → j ≡ i) → number_of order i < length at → j < suc i → number_of (set at (number_of order i) i) (number_of order j) ≡ j
place_case order at i j (inl e) old apart l k =
    subst (λ (z : ℕ). number_of (set at (number_of order i) i) (number_of order z) ≡ z) (sym e) (get_or-set_same at (number_of order i) i 0 l)
place_case order at i j (inr n) old apart l k =
    get_or-set_other at (number_of order i) (number_of order j) i 0 (λ e. n (apart e)) ∙ old (omega (arith, n, k))

pub one_more_place : (count : ℕ) (order at now : List ℕ) (i : ℕ) → StandOnce count order → ArePlacesTill count order at i → i < length order → now ≡ set at (number_of order i) i → ArePlacesTill count order now (i + 1)
one_more_place count order at now i a p l e = subst (λ z. ArePlacesTill count order z (i + 1)) (sym e) (record {
  sized = length-set at (number_of order i) i ∙ p.sized;
  is = λ j k. place_case order at i j (same_or_not j i) (λ m. p.is j m) (λ s. a.apart j i (omega (arith, k, l)) l s) (let w = a.within i l in let s = p.sized in omega (arith, w, s)) (omega (arith, k));
})
