-- Powers of ends: those of -1, 0 and 1 repeat, and those that have left the limit stay.
use Rattle.std.proofs.lemmas.Bool.{and_parts}
use Rattle.std.proofs.Common.{◌≡◌, ℕ, zero, suc, ◌+◌, ◌-◌, ◌*◌, ◌/◌, ◌%◌, ◌<◌, ◌≤◌, ℤ, pos, negsuc, true, false, refl, sym, ap, ◌∙◌, arith}
use Rattle.std.specs.Prelude.{Bool, ◌&&◌, int_le, nat_lt, None}
use Rattle.std.proofs.lemmas.Bool.Decides.{nat_tests}
use Rattle.std.proofs.lemmas.Int.{ints}
use Rattle.mz_interval.specs.Ends.{Ends, if_in_limit}
use Rattle.mz_operations.specs.declared.row.Fold.TheVariants.{Product}
use Rattle.mz_operations.specs.Bounds.{fold_ends, raised_ends}
use Rattle.mz_operations_bounds.specs.StepsPowers.{is_unit, are_units, reduced}
use Rattle.mz_operations_bounds.proofs.Folding.{step_outside}

pub raised_none : (e : Ends) → raised_ends e 0 ≡ (pos 1, pos 1)
unfolding raised_ends
raised_none e = refl

raised_suc : (e : Ends) (n : ℕ) → raised_ends e (suc n) ≡ fold_ends Product (raised_ends e n) e
unfolding raised_ends
raised_suc e n = refl

-- ---- -1, 0 and 1

too_great : (n : ℕ) → is_unit (pos (suc (suc n))) ≡ true → ⊥
too_great n e = let p = and_parts (int_le (negsuc 0) (pos (suc (suc n)))) (int_le (pos (suc (suc n))) (pos 1)) e in omega (arith, ints)

too_small : (n : ℕ) → is_unit (negsuc (suc n)) ≡ true → ⊥
too_small n e = let p = and_parts (int_le (negsuc 0) (negsuc (suc n))) (int_le (negsuc (suc n)) (pos 1)) e in omega (arith, ints)

third : (x y : ℤ) → is_unit x ≡ true → is_unit y ≡ true → raised_ends (x, y) 3 ≡ raised_ends (x, y) 1
unfolding raised_ends fold_ends
third (pos zero) (pos zero) a b = refl
third (pos zero) (pos (suc zero)) a b = refl
third (pos zero) (negsuc zero) a b = refl
third (pos (suc zero)) (pos zero) a b = refl
third (pos (suc zero)) (pos (suc zero)) a b = refl
third (pos (suc zero)) (negsuc zero) a b = refl
third (negsuc zero) (pos zero) a b = refl
third (negsuc zero) (pos (suc zero)) a b = refl
third (negsuc zero) (negsuc zero) a b = refl
third (pos (suc (suc n))) y a b = absurd (too_great n a)
third (negsuc (suc n)) y a b = absurd (too_small n a)
third x (pos (suc (suc n))) a b = absurd (too_great n b)
third x (negsuc (suc n)) a b = absurd (too_small n b)

two_more : (e : Ends) → raised_ends e 3 ≡ raised_ends e 1 → (n : ℕ) → raised_ends e (suc (suc (suc n))) ≡ raised_ends e (suc n)
two_more e t zero = t
two_more e t (suc n) =
    raised_suc e (suc (suc (suc n))) ∙ ap (λ a. fold_ends Product a e) (two_more e t n) ∙ sym (raised_suc e (suc n))

many_more : (e : Ends) → raised_ends e 3 ≡ raised_ends e 1 → (k m : ℕ) → raised_ends e (suc (2 * k + m)) ≡ raised_ends e (suc m)
many_more e t zero m = let same : suc (2 * 0 + m) ≡ suc m = omega arith in ap (raised_ends e) same
many_more e t (suc k) m =
    let same : suc (2 * suc k + m) ≡ suc (suc (suc (2 * k + m))) = omega arith in
    ap (raised_ends e) same ∙ two_more e t (2 * k + m) ∙ many_more e t k m

reduced_small : (e : Ends) (n : ℕ) → n < 3 → raised_ends e n ≡ raised_ends e (reduced n)
reduced_small e zero l = refl
reduced_small e (suc zero) l = refl
reduced_small e (suc (suc zero)) l = refl
reduced_small e (suc (suc (suc n))) l = absurd (omega arith)

reduced_great : (e : Ends) → raised_ends e 3 ≡ raised_ends e 1 → (n : ℕ) → 2 < n → raised_ends e n ≡ raised_ends e (suc ((n - 1) % 2))
reduced_great e t n l =
    let same : n ≡ suc (2 * ((n - 1) / 2) + (n - 1) % 2) = omega arith in
    ap (raised_ends e) same ∙ many_more e t ((n - 1) / 2) ((n - 1) % 2)

reduced_power : (e : Ends) → raised_ends e 3 ≡ raised_ends e 1 → (n : ℕ) (b : Bool) → nat_lt n 3 ≡ b → raised_ends e n ≡ raised_ends e (reduced n)
reduced_power e t n true l = reduced_small e n (grind (arith, nat_tests))
reduced_power e t n false l =
    let great : 2 < n = grind (arith, nat_tests) in
    let same : reduced n ≡ suc ((n - 1) % 2) = rw l refl in
    reduced_great e t n great ∙ ap (raised_ends e) (sym same)

pub same_power : (e : Ends) (n m : ℕ) (r : Ends) → are_units e ≡ true → m ≡ reduced n → r ≡ raised_ends e m → r ≡ raised_ends e n
same_power e n m r u s p =
    let units = and_parts (is_unit e.0) (is_unit e.1) u in
    p ∙ ap (raised_ends e) s ∙ sym (reduced_power e (third e.0 e.1 units.0 units.1) n (nat_lt n 3) refl)

-- ---- what has left the limit

stuck_by : (e : Ends) (n : ℕ) → None ≡ if_in_limit (raised_ends e n) → (k : ℕ) → raised_ends e (k + n) ≡ raised_ends e n
stuck_by e n out zero = let same : 0 + n ≡ n = omega arith in ap (raised_ends e) same
stuck_by e n out (suc k) =
    let on = stuck_by e n out k in
    let same : suc k + n ≡ suc (k + n) = omega arith in
    ap (raised_ends e) same ∙ raised_suc e (k + n) ∙ ap (λ a. fold_ends Product a e) on ∙ sym (step_outside Product (raised_ends e n) e out)

pub stuck_at : (e acc : Ends) (n m : ℕ) → acc ≡ raised_ends e n → None ≡ if_in_limit acc → n ≤ m → acc ≡ raised_ends e m
stuck_at e acc n m a out l =
    let same : m ≡ (m - n) + n = omega arith in
    let gone : None ≡ if_in_limit (raised_ends e n) = out ∙ ap if_in_limit a in
    a ∙ sym (ap (raised_ends e) same ∙ stuck_by e n gone (m - n))

pub factor_made : (e acc next : Ends) (n : ℕ) → next ≡ fold_ends Product acc e → acc ≡ raised_ends e n → next ≡ raised_ends e (n + 1)
factor_made e acc next n m a =
    let same : n + 1 ≡ suc n = omega arith in
    m ∙ ap (λ b. fold_ends Product b e) a ∙ sym (ap (raised_ends e) same ∙ raised_suc e n)
