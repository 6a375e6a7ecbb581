-- What a text writes, by its first bytes.
use Rattle.std.proofs.Common.{◌≡◌, ◌<◌, ◌≤◌, ◌-◌, ℕ, List, [], ◌∷◌, ◌⊎◌, length, take, drop, get_or, Some, None, refl, ap, subst, ◌∙◌, sym, arith, inl, inr}
use Rattle.std.proofs.lemmas.Grind.{common_steps}
use Rattle.cases.specs.Bytes.{byte_of, one_or, written}

-- where three bytes write one
pub written-marked : (text : List ℕ) (byte : ℕ) → 3 ≤ length text → byte_of (get_or text 0 0) (get_or text 1 0) (get_or text 2 0) ≡ Some byte → written text ≡ byte ∷ written (take (length text - 3) (drop 3 text))
unfolding written
written-marked [] byte long is = absurd (omega arith)
written-marked (a ∷ []) byte long is = absurd (omega arith)
written-marked (a ∷ b ∷ []) byte long is = absurd (omega arith)
written-marked (a ∷ b ∷ c ∷ others) byte long is =
    let same : take (length (a ∷ b ∷ c ∷ others) - 3) (drop 3 (a ∷ b ∷ c ∷ others)) ≡ others = grind (arith, common_steps) in
    ap (λ w. one_or w (written others) (a ∷ written (b ∷ c ∷ others))) is ∙ sym (ap (λ w. byte ∷ written w) same)

-- where a byte writes itself
written-same : (first : ℕ) (rest : List ℕ) → (length (first ∷ rest) < 3) ⊎ (byte_of first (get_or rest 0 0) (get_or rest 1 0) ≡ None) → written (first ∷ rest) ≡ first ∷ written rest
unfolding written
written-same first [] plain = refl
written-same first (b ∷ []) plain = refl
written-same first (b ∷ c ∷ others) (inl short) = absurd (omega arith)
written-same first (b ∷ c ∷ others) (inr is) =
    ap (λ w. one_or w (written others) (first ∷ written (b ∷ c ∷ others))) is

pub written-plain : (text : List ℕ) (first : ℕ) (rest : List ℕ) → text ≡ first ∷ rest → (length text < 3) ⊎ (byte_of (get_or text 0 0) (get_or text 1 0) (get_or text 2 0) ≡ None) → written text ≡ first ∷ written rest
written-plain text first rest whole plain =
    let P : List ℕ → Type 0 = λ t. (length t < 3) ⊎ (byte_of (get_or t 0 0) (get_or t 1 0) (get_or t 2 0) ≡ None) in
    ap written whole ∙ written-same first rest (subst P whole plain)
