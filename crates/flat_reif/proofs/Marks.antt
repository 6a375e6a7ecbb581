-- Marks of ids.
use Rattle.std.proofs.Common.{◌≡◌, ℕ, zero, suc, ◌<◌, List, [], ◌∷◌, ◌++◌, length, set, Bool, true, false, nat_eq, refl, arith}
use Rattle.std.proofs.lemmas.Bool.Decides.{nat_tests}
use Rattle.flat_reif.specs.Needs.{is_needed, HasAlso}

-- a mark that isn't set adds no id
pub no_mark : (marks : List Bool) (k : ℕ) → is_needed (marks ++ false ∷ []) k ≡ is_needed marks k
no_mark [] zero = refl
no_mark [] (suc k) = refl
no_mark (b ∷ marks) zero = refl
no_mark (b ∷ marks) (suc k) = no_mark marks k

next_number : (k n : ℕ) → nat_eq (suc k) (suc n) ≡ nat_eq k n
next_number k n = grind (arith, nat_tests)

zero_number : (n : ℕ) → nat_eq zero (suc n) ≡ false
zero_number n = grind (arith, nat_tests)

other_number : (k : ℕ) → nat_eq (suc k) zero ≡ false
other_number k = grind (arith, nat_tests)

own_number : nat_eq zero zero ≡ true
own_number = refl

pub one_mark : (marks : List Bool) (id : ℕ) → id < length marks → HasAlso marks (set marks id true) id
one_mark [] id h k = absurd (omega (arith, h))
one_mark (b ∷ marks) zero h zero = refl
one_mark (b ∷ marks) zero h (suc k) = rw (other_number k) refl
one_mark (b ∷ marks) (suc id) h zero = rw (zero_number id) refl
one_mark (b ∷ marks) (suc id) h (suc k) = rw (next_number k id) (one_mark marks id (omega (arith, h)) k)
