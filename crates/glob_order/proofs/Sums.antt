-- A sum in a loop: what is summed so far, with what the rest gives, is the whole.
use Rattle.std.proofs.Common.{◌≡◌, ℕ, ◌+◌, ◌*◌, ◌^◌, ◌<◌, ◌≤◌, ℤ, pos, neg_ℤ, ◌+ℤ◌, ◌≤ℤ◌, List, [], ◌∷◌, length, get_or, drop, refl, sym, ap, ◌∙◌, arith}
use Rattle.std.proofs.Math.IntN.{+ℤ_assoc, +ℤ_idr}
use Rattle.std.proofs.lemmas.List.{at_drop_more, at_drop_all}
use Rattle.mz_globals.specs.Lists.{total}

-- the first i elements are summed, each of at most 2^63
pub record IsSoFar {A : Type 0} (part : A → ℤ) (xs : List A) (i : ℕ) (acc : ℤ) : Type 0 where
  pub whole : acc +ℤ total part (drop i xs) ≡ total part xs
  pub low : neg_ℤ (pos (i * 2 ^ 63)) ≤ℤ acc
  pub high : acc ≤ℤ pos (i * 2 ^ 63)

moved : (a b c n w : ℤ) → n ≡ a +ℤ b → a +ℤ (b +ℤ c) ≡ w → n +ℤ c ≡ w
moved a b c n w e f = ap (λ m. m +ℤ c) e ∙ +ℤ_assoc a b c ∙ f

pub summed_more : {A : Type 0} (part : A → ℤ) (xs : List A) (i : ℕ) (d : A) (acc next whole : ℤ) → i < length xs → next ≡ acc +ℤ part (get_or xs i d) → acc +ℤ total part (drop i xs) ≡ whole → next +ℤ total part (drop (i + 1) xs) ≡ whole
summed_more part xs i d acc next whole l e w =
    moved acc (part (get_or xs i d)) (total part (drop (i + 1) xs)) next whole e (sym (ap (λ n. acc +ℤ n) (at_drop_more (total part) xs i d l)) ∙ w)

no_more : (n w : ℤ) → n +ℤ pos 0 ≡ w → n ≡ w
no_more n w e = sym (+ℤ_idr n) ∙ e

pub summed_all : {A : Type 0} (part : A → ℤ) (xs : List A) (i : ℕ) (acc whole : ℤ) → length xs ≤ i → acc +ℤ total part (drop i xs) ≡ whole → acc ≡ whole
summed_all part xs i acc whole l w = no_more acc whole (sym (ap (λ n. acc +ℤ n) (at_drop_all (total part) xs i l)) ∙ w)
