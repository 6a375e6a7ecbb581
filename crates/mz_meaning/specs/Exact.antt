-- THE VALUE OF A ROW WITH A VAR ARGUMENT: a sum, a product and a power are exact, since of these the bounds alone are asked to lie in the limit. Of par arguments the first partial result that leaves the limit counts, and is refused.
use Rattle.std.specs.Prelude.{◌≡◌, ℕ, zero, suc, ℤ, pos, ◌+ℤ◌, ◌*ℤ◌, neg_ℤ, int_lt, nat_abs, List, [], ◌∷◌, Option, Some, None, if◌then◌else◌, refl}
use Rattle.mz_value.specs.Contents.{Content, int, contents}
use Rattle.mz_value.specs.Contents as values
use Rattle.mz_value.specs.Shown.{Names}
use Rattle.mz_operations.specs.declared.row.Fold.{Fold}
use Rattle.mz_operations.specs.declared.row.Fold.TheVariants.{Sum, SumOfOptions, Product}
use Rattle.mz_operations.specs.declared.row.ScalarRow.TheVariants as scalar
use Rattle.mz_operations.specs.declared.row.Row.{Row}
use Rattle.mz_operations.specs.declared.row.Row.TheVariants.{Scalar}
use Rattle.mz_operations.specs.Views.{◌>>=◌, as_int, as_items}
use Rattle.mz_operations.specs.Numbers.{fold_start}
use Rattle.mz_operations.specs.Arguments.{Arguments, at, int_at, items_at}
use Rattle.mz_operations.specs.Arrays.{fold_from, summand}
use Rattle.mz_operations.specs.Values.{value}

-- one step of a fold
abbrev pub joined : Fold → ℤ → ℤ → ℤ
joined Sum acc x = acc +ℤ x
joined SumOfOptions acc x = acc +ℤ x
joined Product acc x = acc *ℤ x

-- x * x * .. * x, n times
unfoldable pub powered : ℤ → ℕ → ℤ
powered x zero = pos 1
powered x (suc n) = powered x n *ℤ x

-- a negative exponent is refused before
abbrev pub exact_power : ℤ → ℤ → Option ℤ
exact_power x n = if int_lt n (pos 0) then None else Some (powered x (nat_abs n))

abbrev pub exact_value : Names → Row → Arguments → Option Content
exact_value names (Scalar (scalar.Fold op)) args = do
  xs ← items_at args 0
  n ← fold_from (summand op) (joined op) (fold_start op) xs
  Some (int n)
exact_value names (Scalar scalar.Power) args = do
  x ← int_at args 0
  k ← int_at args 1
  n ← exact_power x k
  Some (int n)
exact_value names r args = value names r args

-- ---- worked examples

-- the sum of two numbers past the limit and back
past_and_back : exact_value [] (Scalar (scalar.Fold Sum)) (Some (values.array ((pos 1, pos 3) ∷ []) (contents (int (pos 2305843009213693952) ∷ int (pos 2305843009213693952) ∷ int (neg_ℤ (pos 2305843009213693952)) ∷ []))) ∷ []) ≡ Some (int (pos 2305843009213693952))
unfolding fold_from summand as_int items_at as_items at
past_and_back = refl

an_absent_element : exact_value [] (Scalar (scalar.Fold SumOfOptions)) (Some (values.array ((pos 1, pos 2) ∷ []) (contents (values.absent ∷ int (pos 4) ∷ []))) ∷ []) ≡ Some (int (pos 4))
unfolding fold_from summand as_int items_at as_items at
an_absent_element = refl

no_factors : exact_value [] (Scalar (scalar.Fold Product)) (Some (values.array ((pos 1, pos 0) ∷ []) values.none) ∷ []) ≡ Some (int (pos 1))
unfolding fold_from summand as_int items_at as_items at
no_factors = refl

a_power_past_the_limit : exact_value [] (Scalar scalar.Power) (Some (int (pos 10)) ∷ Some (int (pos 20)) ∷ []) ≡ Some (int (pos 100000000000000000000))
unfolding int_at at as_int powered
a_power_past_the_limit = refl

an_undefined_exponent : exact_value [] (Scalar scalar.Power) (Some (int (pos 10)) ∷ None ∷ []) ≡ None
unfolding int_at at as_int
an_undefined_exponent = refl
