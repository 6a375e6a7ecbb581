-- Values, and more after them.
use Rattle.std.proofs.Common.{◌≡◌, ℕ, zero, suc, ◌<◌, ◌≤◌, pos, List, [], ◌∷◌, ◌++◌, length, take, slice_index_or, refl, ap, arith}
use Rattle.fz_program.specs.Arguments.{Plain, bool, int, set, var, nested}
use Rattle.fz_program.specs.Values as values
use Rattle.fz_program.specs.Values.{Value, Values}
use Rattle.fz_program.specs.Flat.{plain_value}
use Rattle.fz_build.specs.Build.{IsOver}

pub nothing_more : {A : Type 0} (xs : List A) → xs ++ [] ≡ xs
nothing_more [] = refl
nothing_more (x ∷ xs) = ap (λ ys. x ∷ ys) (nothing_more xs)

pub whole_taken : {A : Type 0} (xs : List A) (n : ℕ) → length xs ≡ n → take n xs ≡ xs
whole_taken [] zero l = refl
whole_taken [] (suc n) l = refl
whole_taken (x ∷ xs) zero l = absurd (omega (arith, l))
whole_taken (x ∷ xs) (suc n) l = ap (λ ys. x ∷ ys) (whole_taken xs n (omega (arith, l)))

pub fewer_taken : {A : Type 0} (xs : List A) (m n : ℕ) → m ≤ n → take m (take n xs) ≡ take m xs
fewer_taken xs zero n l = refl
fewer_taken xs (suc m) zero l = absurd (omega (arith, l))
fewer_taken [] (suc m) (suc n) l = refl
fewer_taken (x ∷ xs) (suc m) (suc n) l = ap (λ ys. x ∷ ys) (fewer_taken xs m n (omega (arith, l)))

at_before : (f more : Values) (k : ℕ) (d : Value) → k < length f → slice_index_or (f ++ more) k d ≡ slice_index_or f k d
at_before [] more k d l = absurd (omega (arith, l))
at_before (x ∷ f) more zero d l = refl
at_before (x ∷ f) more (suc k) d l = at_before f more k d (omega (arith, l))

-- an argument of the first n variables is of the first n values
pub plain_before : (f more : Values) (n : ℕ) → length f ≡ n → (p : Plain) → IsOver n p → plain_value (f ++ more) p ≡ plain_value f p
plain_before f more n l (var k) h = at_before f more k (values.number (pos 0)) (omega (arith, h, l))
plain_before f more n l (bool b) h = refl
plain_before f more n l (int i) h = refl
plain_before f more n l (set s) h = refl
plain_before f more n l nested h = refl
