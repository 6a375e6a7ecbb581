-- The nodes of a power mean the power.
use Rattle.std.proofs.Common.{◌≡◌, ◌∙◌, ℕ, zero, suc, ◌+◌, ◌*◌, ◌<◌, ◌≤◌, ◌^◌, ◌/◌, ◌%◌, nat_eq, int_lt, ℤ, pos, Bool, true, false, [], ◌∷◌, Option, Some, None, refl, sym, ap, subst, arith, pow-suc, if◌then◌else◌}
use Rattle.std.proofs.lemmas.Int.{ints}
use Rattle.std.proofs.lemmas.Bool.Decides.{nat_tests}
use Rattle.std.proofs.Math.IntN.{◌*ℤ◌, ◌+ℤ◌, *ℤ-zero}
use Rattle.std.specs.Option.{option_map}
use Rattle.mz_value.specs.Contents.{Content}
use Rattle.mz_value.specs.Contents as values
use Rattle.mz_value.specs.Shown.{Names}
use Rattle.mz_core.specs.declared.types.Base.TheVariants as base
use Rattle.mz_operations.specs.declared.row.Arith.TheVariants.{Mul}
use Rattle.mz_operations.specs.declared.row.ScalarRow.TheVariants as row
use Rattle.mz_operations.specs.declared.row.Row.TheVariants.{Scalar}
use Rattle.mz_operations.specs.Views.{◌>>=◌, as_int}
use Rattle.mz_operations.specs.Arguments.{at, int_at}
use Rattle.mz_operations.specs.Numbers.{computed}
use Rattle.mz_arena.specs.Values.{Term, as_number, arith_term}
use Rattle.mz_meaning.specs.Cells.{Mode, Blank, Given, held}
use Rattle.mz_meaning.specs.Exact.{exact_power, exact_value, powered}
use Rattle.mz_meaning.specs.Runs.{Out}
use Rattle.mz_symbol.specs.declared.types.Symbol.{Symbol}
use Rattle.mz_symbol.specs.Symbols.{value_by}
use Rattle.mz_symbol.specs.Runs.{Run}
use Rattle.mz_symbol.specs.Readings.{Reading, symbol_seen, state_of}
use Rattle.mz_symbol.specs.Makes.{GoesOnBy}
use Rattle.mz_symbol.proofs.ConstantLaws.{out_value, out_state}
use Rattle.mz_symbol_rows.specs.RowValues.{argument}
use Rattle.mz_symbol_rows.specs.StepsNodes.{IsOf, symbol_of}
use Rattle.mz_symbol_rows.proofs.RowLaws.{argument_is, argument_by}
use Rattle.mz_symbol_rows.proofs.GoingOn.{goes_both, goes_most}
use Rattle.mz_symbol_arrays.proofs.LineLaws.{goes_none}
use Rattle.mz_symbol_arrays.specs.StepsPowers.{one_term, doubled_term, Powers}
use Rattle.mz_symbol_arrays.proofs.ProductLaws.{power_one, power_even, power_odd}

-- ---- nodes

product_is : (x y : Term) (i j : Option ℤ) → as_number x ≡ i → as_number y ≡ j → as_number (arith_term Mul x y) ≡ (i >>= λ n. option_map (λ m. n *ℤ m) j)
unfolding arith_term computed
product_is x y None j e f = rw (e) refl
product_is x y (Some n) None e f = rw (e, f) refl
product_is x y (Some n) (Some m) e f = rw (e, f) refl

zero_one : (n : ℤ) → n *ℤ pos 0 +ℤ pos 1 ≡ pos 1
zero_one n = ap (λ m. m +ℤ pos 1) (*ℤ-zero n)

powers_zero : (n : ℤ) → powered n 0 ≡ pos 1
unfolding powered
powers_zero n = refl

one_is : (x : Term) (i : Option ℤ) → as_number x ≡ i → as_number (one_term x) ≡ option_map (λ n. powered n 0) i
unfolding arith_term computed
one_is x None e = rw (e) refl
one_is x (Some n) e = rw (e) (ap (λ m. Some m) (zero_one n ∙ sym (powers_zero n)))

even_is : (h : Term) (k m : ℕ) (i : Option ℤ) → as_number h ≡ option_map (λ n. powered n m) i → k ≡ m + m → as_number (arith_term Mul h h) ≡ option_map (λ n. powered n k) i
even_is h k m None e f = product_is h h None None e e
even_is h k m (Some n) e f = product_is h h (Some (powered n m)) (Some (powered n m)) e e ∙ ap (λ j. Some j) (power_even n k m f)

odd_is : (x h : Term) (k m : ℕ) (i : Option ℤ) → as_number x ≡ i → as_number h ≡ option_map (λ n. powered n m) i → k ≡ suc (m + m) → as_number (arith_term Mul (arith_term Mul h h) x) ≡ option_map (λ n. powered n k) i
odd_is x h k m None u e f = product_is (arith_term Mul h h) x None None (product_is h h None None e e) u
odd_is x h k m (Some n) u e f = product_is (arith_term Mul h h) x (Some (powered n m *ℤ powered n m)) (Some n) (product_is h h (Some (powered n m)) (Some (powered n m)) e e) u ∙ ap (λ j. Some j) (power_odd n k m f)

is_one : (n : ℕ) → nat_eq n 1 ≡ true → n ≡ 1
is_one n h = grind (arith, nat_tests)

is_none : (n : ℕ) → n < 2 → nat_eq n 1 ≡ false → n ≡ 0
is_none n l h = grind (arith, nat_tests)

rest_below : (k : ℕ) → k % 2 < 2
rest_below k = omega arith

half_even : (k : ℕ) → nat_eq (k % 2) 1 ≡ false → k ≡ k / 2 + k / 2
half_even k h = omega (arith, is_none (k % 2) (rest_below k) h)

half_odd : (k : ℕ) → nat_eq (k % 2) 1 ≡ true → k ≡ suc (k / 2 + k / 2)
half_odd k h = omega (arith, is_one (k % 2) h)

doubled_is : (x h : Term) (k : ℕ) (b : Bool) → nat_eq (k % 2) 1 ≡ b → as_number h ≡ option_map (λ n. powered n (k / 2)) (as_number x) → as_number (doubled_term b x h) ≡ option_map (λ n. powered n k) (as_number x)
doubled_is x h k true o e = odd_is x h k (k / 2) (as_number x) refl e (half_odd k o)
doubled_is x h k false o e = even_is h k (k / 2) (as_number x) e (half_even k o)

-- ---- what the calls say

pub power_zero : (r : Reading) (old new : Run) (x k id : ℕ) → k ≡ 0 → Out (one_term (r.term x)) (state_of r old) ≡ Out (r.term id) (state_of r new) → Powers r old new x k id
power_zero r old new x k id e h = subst (λ n. Powers r old new x n id) (sym e) (record { same = out_state h; is = ap as_number (sym (out_value h)) ∙ one_is (r.term x) (as_number (r.term x)) refl })

first_power : (i : Option ℤ) → i ≡ option_map (λ n. powered n 1) i
first_power None = refl
first_power (Some n) = ap (λ m. Some m) (sym (power_one n))

pub power_first : (r : Reading) (s : Run) (x k : ℕ) → k ≡ 1 → Powers r s s x k x
power_first r s x k e = subst (λ n. Powers r s s x n x) (sym e) (record { same = refl; is = first_power (as_number (r.term x)) })

pub power_more : (r : Reading) (old mid new : Run) (x k half id : ℕ) (b : Bool) → b ≡ nat_eq (k % 2) 1 → Powers r old mid x (k / 2) half → Out (doubled_term b (r.term x) (r.term half)) (state_of r mid) ≡ Out (r.term id) (state_of r new) → Powers r old new x k id
power_more r old mid new x k half id b e w h = record {
  same = w.same ∙ out_state h;
  is = ap as_number (sym (out_value h)) ∙ doubled_is (r.term x) (r.term half) k b (sym e) w.is;
}

-- ---- what it may cost

pub halved : (w k : ℕ) → k < 2 ^ suc w → k / 2 < 2 ^ w
halved w k h = half (2 ^ w) k (subst (λ n. k < n) (twice w) h)
  where
    twice : (w : ℕ) → 2 ^ suc w ≡ 2 ^ w * 2
    twice w = pow-suc 2 w

    half : (n k : ℕ) → k < n * 2 → k / 2 < n
    half n k h = omega (arith, h)

-- the charge of an exponent of two digits and more, from that of its half
pub halves_go : (old mid new : Run) (k : ℕ) → 2 ≤ k → ((w : ℕ) → k / 2 < 2 ^ w → GoesOnBy (8 * w + 8) old mid) → GoesOnBy 8 mid new → (w : ℕ) → k < 2 ^ w → GoesOnBy (8 * w + 8) old new
halves_go old mid new k h f g zero l = absurd (omega (arith, h, l))
halves_go old mid new k h f g (suc w) l = goes_most (8 * w + 8 + 8) (8 * suc w + 8) old new (omega arith) (goes_both (8 * w + 8) 8 old mid new (f w (halved w k l)) g)

pub half_goes : (old mid : Run) (k : ℕ) → 2 ≤ k → ((w : ℕ) → k / 2 < 2 ^ w → GoesOnBy (8 * w + 8) old mid) → (w : ℕ) → k < 2 ^ w → GoesOnBy (8 * w + 8) old mid
half_goes old mid k h f zero l = absurd (omega (arith, h, l))
half_goes old mid k h f (suc w) l = goes_most (8 * w + 8) (8 * suc w + 8) old mid (omega arith) (f w (halved w k l))

pub few_go : (n w : ℕ) (old new : Run) → n ≤ 8 → GoesOnBy n old new → GoesOnBy (8 * w + 8) old new
few_go n w old new h f = goes_most n (8 * w + 8) old new (omega (arith, h)) f

pub none_goes : (w : ℕ) (s : Run) → GoesOnBy (8 * w + 8) s s
none_goes w s = goes_most 0 (8 * w + 8) s s (omega arith) (goes_none s)

-- ---- the row

abbrev ints_of : Option ℤ → Option Content
ints_of o = option_map (λ n. values.int n) o

positive : (k : ℕ) (n : ℤ) → exact_power n (pos k) ≡ Some (powered n k)
positive k n = ap (λ b. if b then None else Some (powered n k)) (below k)
  where
    below : (k : ℕ) → int_lt (pos k) (pos 0) ≡ false
    below k = by (int_lt (pos k) (pos 0)) refl
      where
        by : (t : Bool) → int_lt (pos k) (pos 0) ≡ t → t ≡ false
        by true e = absurd (omega (arith, ints, e))
        by false e = refl

row_on : (names : Names) (i : Option ℤ) (k : ℕ) → exact_value names (Scalar row.Power) (ints_of i ∷ Some (values.int (pos k)) ∷ []) ≡ ints_of (option_map (λ n. powered n k) i)
unfolding int_at at as_int
row_on names None k = refl
row_on names (Some n) k = ap (λ o. o >>= λ m. Some (values.int m)) (positive k n)

row_held : (m : Mode) (names : Names) (p v : Option Content) (k : ℕ) → exact_value names (Scalar row.Power) (p ∷ Some (values.int (pos k)) ∷ []) ≡ v → held m (exact_value names (Scalar row.Power) (held m p ∷ Some (values.int (pos k)) ∷ [])) ≡ held m v
row_held (Blank n) names p v k e = refl
row_held (Given f) names p v k e = e

pub power_held : (r : Reading) (old new : Run) (names : Names) (a : Symbol) (x k id : ℕ) → IsOf base.Int x a → Powers r old new x k id → held r.mode (exact_value names (Scalar row.Power) (argument r a ∷ Some (values.int (pos k)) ∷ [])) ≡ symbol_seen r (symbol_of base.Int id)
power_held r old new names a x k id u w =
    ap (λ v. held r.mode (exact_value names (Scalar row.Power) (v ∷ Some (values.int (pos k)) ∷ []))) (argument_is r a base.Int x u)
    ∙ row_held r.mode names (argument_by base.Int (r.term x)) (value_by base.Int (r.term id)) k (row_on names (as_number (r.term x)) k ∙ ap ints_of (sym w.is))
