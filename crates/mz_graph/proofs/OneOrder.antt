-- Turns leave no choice.
use Rattle.std.proofs.Common.{◌≡◌, ℕ, inl, inr, List, [], ◌∷◌, ◌++◌, refl, ap, ◌∙◌, subst, arith}
use Rattle.mz_graph.specs.Order.{IsNext, Continues, over, turn}
use Rattle.mz_graph.proofs.Membership.{below_or_not}

one_next : {Needs : ℕ → ℕ → Type 0} {count : ℕ} {done : List ℕ} (x y : ℕ) → IsNext Needs count done x → IsNext Needs count done y → x ≡ y
one_next x y p q = elim (below_or_not x y) [
  | inl h ↦ absurd (q.least x h p.ready)
  | inr h ↦ elim (below_or_not y x) [ inl g ↦ absurd (p.least y g q.ready) | inr g ↦ omega arith ]
]

pub one_order : {Needs : ℕ → ℕ → Type 0} {count : ℕ} {done : List ℕ} (a b : List ℕ) → Continues Needs count done a → Continues Needs count done b → a ≡ b
one_order [] [] p q = refl
one_order [] (y ∷ b) (over none) (turn q more) = absurd (none y q.ready)
one_order (x ∷ a) [] (turn p more) (over none) = absurd (none x p.ready)
one_order {Needs} {count} {done} (x ∷ a) (y ∷ b) (turn p more) (turn q rest) =
    let is = one_next x y p q in
    ap (λ z. z ∷ a) is ∙ ap (λ z. y ∷ z) (one_order a b (subst (λ z. Continues Needs count (done ++ z ∷ []) a) is more) rest)
