-- The lines of the globals of order, over arguments that may be undefined.
use Rattle.std.proofs.Common.{◌≡◌, ◌∙◌, ℤ, Bool, false, List, [], ◌∷◌, Option, Some, ap}
use Rattle.std.specs.List.{list_any}
use Rattle.std.specs.Option.{option_map}
use Rattle.std.specs.Ordering.{int_eq}
use Rattle.mz_value.specs.Ranges.{Range}
use Rattle.mz_value.specs.Contents as values
use Rattle.mz_operations.specs.declared.row.Comparison.{Comparison}
use Rattle.mz_operations.specs.declared.row.Side.{Side}
use Rattle.mz_operations.specs.Views.{◌>>=◌}
use Rattle.mz_operations.specs.Arguments.{int_at}
use Rattle.mz_globals.specs.declared.global.Global.TheVariants as global
use Rattle.mz_globals.specs.Order as order
use Rattle.mz_globals.specs.Reading.{ints_at}
use Rattle.mz_globals.specs.Table.{line_of, truth}
use Rattle.glob_nodes.specs.Arguments.{array_of}
use Rattle.glob_nodes.proofs.Rows.{found, ints_are, int_is, at_first, at_second, at_third, found_swap, one_found, two_found, three_found}

one_array : (f : List ℤ → Bool) (x : Range) (o : Option (List ℤ)) → truth (ints_at (array_of x o ∷ []) 0 >>= λ ns. Some (f ns)) ≡ Some (values.bool (found f o))
one_array f x o = ap (λ p. truth (p >>= λ ns. Some (f ns))) (ints_are (array_of x o ∷ []) 0 x o (at_first (array_of x o) [])) ∙ one_found f o

pub two_arrays : (f : List ℤ → List ℤ → Bool) (x y : Range) (o p : Option (List ℤ)) → truth (ints_at (array_of x o ∷ array_of y p ∷ []) 0 >>= λ ns. ints_at (array_of x o ∷ array_of y p ∷ []) 1 >>= λ ms. Some (f ns ms)) ≡ Some (values.bool (found (λ v. found (f v) p) o))
two_arrays f x y o p =
    ap (λ q. truth (q >>= λ ns. ints_at (array_of x o ∷ array_of y p ∷ []) 1 >>= λ ms. Some (f ns ms))) (ints_are (array_of x o ∷ array_of y p ∷ []) 0 x o (at_first (array_of x o) (array_of y p ∷ [])))
    ∙ ap (λ q. truth (o >>= λ ns. q >>= λ ms. Some (f ns ms))) (ints_are (array_of x o ∷ array_of y p ∷ []) 1 y p (at_second (array_of x o) (array_of y p) []))
    ∙ two_found f o p

number_array : (f : ℤ → List ℤ → Bool) (y : Range) (o : Option ℤ) (p : Option (List ℤ)) → truth (int_at (option_map values.int o ∷ array_of y p ∷ []) 0 >>= λ n. ints_at (option_map values.int o ∷ array_of y p ∷ []) 1 >>= λ ms. Some (f n ms)) ≡ Some (values.bool (found (λ v. found (f v) p) o))
number_array f y o p =
    ap (λ q. truth (q >>= λ n. ints_at (option_map values.int o ∷ array_of y p ∷ []) 1 >>= λ ms. Some (f n ms))) (int_is (option_map values.int o ∷ array_of y p ∷ []) 0 o (at_first (option_map values.int o) (array_of y p ∷ [])))
    ∙ ap (λ q. truth (o >>= λ n. q >>= λ ms. Some (f n ms))) (ints_are (option_map values.int o ∷ array_of y p ∷ []) 1 y p (at_second (option_map values.int o) (array_of y p) []))
    ∙ two_found f o p

array_number : (f : List ℤ → ℤ → Bool) (x : Range) (o : Option (List ℤ)) (p : Option ℤ) → truth (ints_at (array_of x o ∷ option_map values.int p ∷ []) 0 >>= λ ns. int_at (array_of x o ∷ option_map values.int p ∷ []) 1 >>= λ m. Some (f ns m)) ≡ Some (values.bool (found (λ v. found (f v) p) o))
array_number f x o p =
    ap (λ q. truth (q >>= λ ns. int_at (array_of x o ∷ option_map values.int p ∷ []) 1 >>= λ m. Some (f ns m))) (ints_are (array_of x o ∷ option_map values.int p ∷ []) 0 x o (at_first (array_of x o) (option_map values.int p ∷ [])))
    ∙ ap (λ q. truth (o >>= λ ns. q >>= λ m. Some (f ns m))) (int_is (array_of x o ∷ option_map values.int p ∷ []) 1 p (at_second (array_of x o) (option_map values.int p) []))
    ∙ two_found f o p

pub different_line : (x : Range) (o : Option (List ℤ)) → (line_of global.AllDifferent).value (array_of x o ∷ []) ≡ Some (values.bool (found order.all_different o))
unfolding line_of
different_line x o = one_array order.all_different x o

pub but_zero_line : (x : Range) (o : Option (List ℤ)) → (line_of global.DifferentButZero).value (array_of x o ∷ []) ≡ Some (values.bool (found order.different_but_zero o))
unfolding line_of
but_zero_line x o = one_array order.different_but_zero x o

pub equal_line : (x : Range) (o : Option (List ℤ)) → (line_of global.AllEqual).value (array_of x o ∷ []) ≡ Some (values.bool (found order.all_equal o))
unfolding line_of
equal_line x o = one_array order.all_equal x o

pub ordered_line : (op : Comparison) (x : Range) (o : Option (List ℤ)) → (line_of (global.Ordered op)).value (array_of x o ∷ []) ≡ Some (values.bool (found (order.is_ordered op) o))
unfolding line_of
ordered_line op x o = one_array (order.is_ordered op) x o

pub lex_line : (same : Bool) (x y : Range) (o p : Option (List ℤ)) → (line_of (global.Lex same)).value (array_of x o ∷ array_of y p ∷ []) ≡ Some (values.bool (found (λ v. found (order.comes_before same v) p) o))
unfolding line_of
lex_line same x y o p = two_arrays (order.comes_before same) x y o p

pub extreme_line : (side : Side) (y : Range) (o : Option ℤ) (p : Option (List ℤ)) → (line_of (global.Extreme side)).value (option_map values.int o ∷ array_of y p ∷ []) ≡ Some (values.bool (found (λ v. found (order.is_extreme side v) p) o))
unfolding line_of
extreme_line side y o p = number_array (order.is_extreme side) y o p

abbrev pub is_member : List ℤ → ℤ → Bool
is_member xs y = list_any (int_eq y) xs

pub member_line : (x : Range) (o : Option (List ℤ)) (p : Option ℤ) → (line_of global.Member).value (array_of x o ∷ option_map values.int p ∷ []) ≡ Some (values.bool (found (λ v. found (λ ns. is_member ns v) o) p))
unfolding line_of
member_line x o p = array_number is_member x o p ∙ ap (λ b. Some (values.bool b)) (found_swap is_member o p)

pub precede_line : (z : Range) (o p : Option ℤ) (q : Option (List ℤ)) → (line_of global.Precede).value (option_map values.int o ∷ option_map values.int p ∷ array_of z q ∷ []) ≡ Some (values.bool (found (λ v. found (λ w. found (λ ns. order.precedes v w false ns) q) p) o))
unfolding line_of
precede_line z o p q =
    ap (λ u. truth (u >>= λ v. int_at (option_map values.int o ∷ option_map values.int p ∷ array_of z q ∷ []) 1 >>= λ w. ints_at (option_map values.int o ∷ option_map values.int p ∷ array_of z q ∷ []) 2 >>= λ ns. Some (order.precedes v w false ns))) (int_is (option_map values.int o ∷ option_map values.int p ∷ array_of z q ∷ []) 0 o (at_first (option_map values.int o) (option_map values.int p ∷ array_of z q ∷ [])))
    ∙ ap (λ u. truth (o >>= λ v. u >>= λ w. ints_at (option_map values.int o ∷ option_map values.int p ∷ array_of z q ∷ []) 2 >>= λ ns. Some (order.precedes v w false ns))) (int_is (option_map values.int o ∷ option_map values.int p ∷ array_of z q ∷ []) 1 p (at_second (option_map values.int o) (option_map values.int p) (array_of z q ∷ [])))
    ∙ ap (λ u. truth (o >>= λ v. p >>= λ w. u >>= λ ns. Some (order.precedes v w false ns))) (ints_are (option_map values.int o ∷ option_map values.int p ∷ array_of z q ∷ []) 2 z q (at_third (option_map values.int o) (option_map values.int p) (array_of z q) []))
    ∙ three_found (λ v w ns. order.precedes v w false ns) o p q
