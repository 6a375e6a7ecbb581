-- A loop over elements with their indices.
use Rattle.std.proofs.Common.{◌≡◌, ℕ, ◌+◌, ◌<◌, ℤ, pos, ◌+ℤ◌, List, [], ◌∷◌, length, get_or, drop, Bool, true, ◌&&◌, refl, sym, ap, ◌∙◌}
use Rattle.std.proofs.Math.IntN.{+ℤ_assoc}
use Rattle.std.proofs.lemmas.List.{at_drop_more}
use Rattle.std.specs.List.{list_all}
use Rattle.mz_globals.specs.Lists.{numbered}

-- one turn more: the index, and what is left to test
pub numbered_more : {A : Type 0} (test : ℤ × A → Bool) (xs : List A) (k : ℕ) (d : A) (first i next : ℤ) (whole : Bool) → k < length xs → i ≡ first +ℤ pos k → next ≡ i +ℤ pos 1 → test (i, get_or xs k d) ≡ true → list_all test (numbered i (drop k xs)) ≡ whole → (next ≡ first +ℤ pos (k + 1)) × (list_all test (numbered next (drop (k + 1) xs)) ≡ whole)
numbered_more test xs k d first i next whole l at n holds w =
    let turn = at_drop_more (λ ys. list_all test (numbered i ys)) xs k d l in
    let passed = ap (λ b. b && list_all test (numbered (i +ℤ pos 1) (drop (k + 1) xs))) holds in
    (n ∙ ap (λ m. m +ℤ pos 1) at ∙ +ℤ_assoc first (pos k) (pos 1), ap (λ m. list_all test (numbered m (drop (k + 1) xs))) n ∙ sym (turn ∙ passed) ∙ w)

-- a test that held of numbers that were read back holds of the numbers
pub as_read : {A : Type 0} (test : ℤ → ℤ × A → Bool) (x y f g : ℤ) (xs ys : List A) (b : Bool) → y ≡ x → g ≡ f → ys ≡ xs → b ≡ list_all (test y) (numbered g ys) → b ≡ true → list_all (test x) (numbered f xs) ≡ true
as_read test x y f g xs ys b p q r e h =
    sym (ap (λ z. list_all (test z) (numbered g ys)) p ∙ ap (λ z. list_all (test x) (numbered z ys)) q ∙ ap (λ zs. list_all (test x) (numbered f zs)) r) ∙ sym e ∙ h
