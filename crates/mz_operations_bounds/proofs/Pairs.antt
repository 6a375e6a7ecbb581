-- Pairs of ends, and loops over lists of them.
use Rattle.std.proofs.Common.{◌≡◌, ℕ, ◌+◌, ◌<◌, ◌≤◌, List, length, get_or, drop, refl, sym, ap, ◌∙◌}
use Rattle.std.proofs.lemmas.List.{at_drop_more, at_drop_all, get_or_default}
use Rattle.std.specs.Prelude.{ℤ, [], ◌∷◌}
use Rattle.mz_interval.specs.Ends.{Ends}
use Rattle.mz_interval.specs.Rows.{sum_of, negation_of}
use Rattle.mz_operations.specs.declared.row.Arith.TheVariants.{Sub}
use Rattle.mz_operations.specs.declared.row.Sign.TheVariants.{Abs}
use Rattle.mz_operations.specs.declared.row.Side.{Side}
use Rattle.mz_operations.specs.Bounds.{arith_ends, sign_ends, least_magnitude, extreme_from, toward_ends}
use Rattle.std.specs.Prelude.{neg_ℤ}
use Rattle.std.specs.Int.{int_max}

abbrev pub pair : ℤ → ℤ → Ends
pair x y = (x, y)

pub pair_same : (e : Ends) (x y : ℤ) → x ≡ e.0 → y ≡ e.1 → pair x y ≡ e
pair_same e x y p q = ap (λ a. pair a y) p ∙ ap (λ b. pair e.0 b) q

pub difference_is : (e f : Ends) → arith_ends Sub e f ≡ sum_of e (negation_of f)
unfolding arith_ends
difference_is e f = refl

pub magnitude_is : (e : Ends) → sign_ends Abs e ≡ pair (least_magnitude e) (int_max (neg_ℤ e.0) e.1)
unfolding sign_ends
magnitude_is e = refl

-- ---- a loop that takes a list's elements in one after another

pub list_goes : {A S R : Type 0} (F : S → List A → R) (step : S → A → S) → ((s : S) (x : A) (xs : List A) → F s (x ∷ xs) ≡ F (step s x) xs) → (xs : List A) (i : ℕ) (x : A) (s next : S) (whole : R) → i < length xs → x ≡ get_or xs i x → next ≡ step s x → F s (drop i xs) ≡ whole → F next (drop (i + 1) xs) ≡ whole
list_goes F step one xs i x s next whole l e n w =
    ap (λ z. F z (drop (i + 1) xs)) n ∙ sym (one s x (drop (i + 1) xs)) ∙ sym (at_drop_more (F s) xs i x l ∙ ap (λ y. F s (y ∷ drop (i + 1) xs)) (sym e)) ∙ w

-- the same where the element is read by its place
pub list_at : {A S R : Type 0} (F : S → List A → R) (step : S → A → S) → ((s : S) (x : A) (xs : List A) → F s (x ∷ xs) ≡ F (step s x) xs) → (xs : List A) (i : ℕ) (d : A) (s next : S) (whole : R) → i < length xs → next ≡ step s (get_or xs i d) → F s (drop i xs) ≡ whole → F next (drop (i + 1) xs) ≡ whole
list_at F step one xs i d s next whole l n w = list_goes F step one xs i (get_or xs i d) s next whole l (get_or_default xs i d (get_or xs i d) l) n w

pub list_ends : {A S R : Type 0} (F : S → List A → R) (out : S → R) → ((s : S) → F s [] ≡ out s) → (xs : List A) (i : ℕ) (s : S) (whole : R) → length xs ≤ i → F s (drop i xs) ≡ whole → out s ≡ whole
list_ends F out none xs i s whole l w = sym (none s) ∙ sym (at_drop_all (F s) xs i l) ∙ w

pub one_extreme : (side : Side) (acc e : Ends) (es : List Ends) → extreme_from side acc (e ∷ es) ≡ extreme_from side (toward_ends side acc e) es
unfolding extreme_from
one_extreme side acc e es = refl

pub none_extreme : (side : Side) (acc : Ends) → extreme_from side acc [] ≡ acc
unfolding extreme_from
none_extreme side acc = refl
