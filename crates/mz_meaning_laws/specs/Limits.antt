-- SUMS, PRODUCTS AND POWERS OF WHICH NO PARTIAL RESULT LEAVES THE LIMIT.
use Rattle.std.specs.Prelude.{◌≡◌, refl, ℕ, zero, suc, ℤ, pos, neg_ℤ, nat_abs, Bool, true, false, ◌&&◌, List, [], ◌∷◌, Option, Some, None}
use Rattle.mz_value.specs.Contents.{Content, int}
use Rattle.mz_interval.specs.Ends.{is_number}
use Rattle.mz_operations.specs.declared.row.Fold.{Fold}
use Rattle.mz_operations.specs.declared.row.Fold.TheVariants.{Sum}
use Rattle.mz_operations.specs.declared.row.ScalarRow.TheVariants as scalar
use Rattle.mz_operations.specs.declared.row.Row.{Row}
use Rattle.mz_operations.specs.declared.row.Row.TheVariants.{Scalar}
use Rattle.mz_operations.specs.Views.{as_int}
use Rattle.mz_operations.specs.Numbers.{fold_start}
use Rattle.mz_operations.specs.Arguments.{Arguments, int_at, items_at}
use Rattle.mz_operations.specs.Arrays.{summand}
use Rattle.mz_meaning.specs.Exact.{joined, powered}

-- what is undefined leaves no limit
abbrev pub if_some : {A : Type 0} → (A → Bool) → Option A → Bool
if_some test None = true
if_some test (Some x) = test x

-- from this partial result on; the last result may leave the limit
unfoldable pub stays : Fold → ℤ → List Content → Bool
stays op acc [] = true
stays op acc (x ∷ xs) = is_number acc && if_some (λ a. stays op (joined op acc a) xs) (summand op x)

-- the powers of x before this one
unfoldable pub powers_stay : ℤ → ℕ → Bool
powers_stay x zero = true
powers_stay x (suc n) = powers_stay x n && is_number (powered x n)

abbrev pub stays_in_limit : Row → Arguments → Bool
stays_in_limit (Scalar (scalar.Fold op)) args = if_some (stays op (fold_start op)) (items_at args 0)
stays_in_limit (Scalar scalar.Power) args = if_some (λ x. if_some (λ k. powers_stay x (nat_abs k)) (int_at args 1)) (int_at args 0)
stays_in_limit r args = true

-- ---- worked examples: the greatest number of the limit is 2^61

-- its sum with 1 comes last
the_last_may_leave : stays Sum (pos 0) (int (pos 2305843009213693952) ∷ int (pos 1) ∷ []) ≡ true
unfolding stays summand as_int
the_last_may_leave = refl

past_and_back : stays Sum (pos 0) (int (pos 2305843009213693952) ∷ int (pos 1) ∷ int (neg_ℤ (pos 1)) ∷ []) ≡ false
unfolding stays summand as_int
past_and_back = refl
