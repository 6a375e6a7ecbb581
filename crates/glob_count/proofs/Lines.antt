-- The lines of the globals of counting, over arguments that may be undefined.
use Rattle.std.proofs.Common.{◌≡◌, ◌∙◌, ℤ, pos, Bool, List, [], ◌∷◌, Option, Some, None, refl, ap}
use Rattle.std.specs.Option.{option_map}
use Rattle.std.specs.Ordering.{int_eq}
use Rattle.mz_value.specs.Ranges.{Range}
use Rattle.mz_value.specs.Contents as values
use Rattle.mz_operations.specs.Views.{◌>>=◌}
use Rattle.mz_operations.specs.Arguments.{int_at}
use Rattle.mz_globals.specs.declared.global.Global.TheVariants as global
use Rattle.mz_globals.specs.declared.global.Relation.{Relation}
use Rattle.mz_globals.specs.declared.global.Relation.TheVariants as relation
use Rattle.mz_globals.specs.Counting as counting
use Rattle.mz_globals.specs.Order as order
use Rattle.mz_globals.specs.Reading.{ints_at}
use Rattle.mz_globals.specs.Table.{line_of, truth}
use Rattle.glob_nodes.specs.Arguments.{array_of}
use Rattle.glob_nodes.proofs.Rows.{found, ints_are, int_is, at_first, at_second, at_third, two_found}

-- arguments that are found in another order than they are read
array_first : (f : ℤ → ℤ → List ℤ → Bool) (o : Option (List ℤ)) (p q : Option ℤ) → truth (o >>= λ ns. p >>= λ v. q >>= λ w. Some (f v w ns)) ≡ Some (values.bool (found (λ v. found (λ w. found (f v w) o) q) p))
array_first f None None q = refl
array_first f None (Some v) None = refl
array_first f None (Some v) (Some w) = refl
array_first f (Some ns) None q = refl
array_first f (Some ns) (Some v) None = refl
array_first f (Some ns) (Some v) (Some w) = refl

array_second : (f : ℤ → ℤ → List ℤ → Bool) (p : Option ℤ) (o : Option (List ℤ)) (q : Option ℤ) → truth (p >>= λ v. o >>= λ ns. q >>= λ w. Some (f v w ns)) ≡ Some (values.bool (found (λ v. found (λ w. found (f v w) o) q) p))
array_second f None o q = refl
array_second f (Some v) None None = refl
array_second f (Some v) None (Some w) = refl
array_second f (Some v) (Some ns) None = refl
array_second f (Some v) (Some ns) (Some w) = refl

-- y and c, then the array
abbrev pub counts : ℤ → ℤ → List ℤ → Bool
counts y c ns = counting.related relation.Exactly c (pos (order.times y ns))

-- n and v, then the array
abbrev pub has_times : Relation → ℤ → ℤ → List ℤ → Bool
has_times t n v ns = counting.related t n (pos (order.times v ns))

pub count_line : (x : Range) (o : Option (List ℤ)) (p q : Option ℤ) → (line_of global.Count).value (array_of x o ∷ option_map values.int p ∷ option_map values.int q ∷ []) ≡ Some (values.bool (found (λ v. found (λ w. found (counts v w) o) q) p))
unfolding line_of
count_line x o p q =
    ap (λ u. truth (u >>= λ ns. int_at (array_of x o ∷ option_map values.int p ∷ option_map values.int q ∷ []) 1 >>= λ v. int_at (array_of x o ∷ option_map values.int p ∷ option_map values.int q ∷ []) 2 >>= λ w. Some (counts v w ns))) (ints_are (array_of x o ∷ option_map values.int p ∷ option_map values.int q ∷ []) 0 x o (at_first (array_of x o) (option_map values.int p ∷ option_map values.int q ∷ [])))
    ∙ ap (λ u. truth (o >>= λ ns. u >>= λ v. int_at (array_of x o ∷ option_map values.int p ∷ option_map values.int q ∷ []) 2 >>= λ w. Some (counts v w ns))) (int_is (array_of x o ∷ option_map values.int p ∷ option_map values.int q ∷ []) 1 p (at_second (array_of x o) (option_map values.int p) (option_map values.int q ∷ [])))
    ∙ ap (λ u. truth (o >>= λ ns. p >>= λ v. u >>= λ w. Some (counts v w ns))) (int_is (array_of x o ∷ option_map values.int p ∷ option_map values.int q ∷ []) 2 q (at_third (array_of x o) (option_map values.int p) (option_map values.int q) []))
    ∙ array_first counts o p q

pub times_line : (t : Relation) (x : Range) (p : Option ℤ) (o : Option (List ℤ)) (q : Option ℤ) → (line_of (global.Times t)).value (option_map values.int p ∷ array_of x o ∷ option_map values.int q ∷ []) ≡ Some (values.bool (found (λ v. found (λ w. found (has_times t v w) o) q) p))
unfolding line_of
times_line t x p o q =
    ap (λ u. truth (u >>= λ v. ints_at (option_map values.int p ∷ array_of x o ∷ option_map values.int q ∷ []) 1 >>= λ ns. int_at (option_map values.int p ∷ array_of x o ∷ option_map values.int q ∷ []) 2 >>= λ w. Some (has_times t v w ns))) (int_is (option_map values.int p ∷ array_of x o ∷ option_map values.int q ∷ []) 0 p (at_first (option_map values.int p) (array_of x o ∷ option_map values.int q ∷ [])))
    ∙ ap (λ u. truth (p >>= λ v. u >>= λ ns. int_at (option_map values.int p ∷ array_of x o ∷ option_map values.int q ∷ []) 2 >>= λ w. Some (has_times t v w ns))) (ints_are (option_map values.int p ∷ array_of x o ∷ option_map values.int q ∷ []) 1 x o (at_second (option_map values.int p) (array_of x o) (option_map values.int q ∷ [])))
    ∙ ap (λ u. truth (p >>= λ v. o >>= λ ns. u >>= λ w. Some (has_times t v w ns))) (int_is (option_map values.int p ∷ array_of x o ∷ option_map values.int q ∷ []) 2 q (at_third (option_map values.int p) (array_of x o) (option_map values.int q) []))
    ∙ array_second (has_times t) p o q

-- n, then the array
abbrev pub has_values : ℤ → List ℤ → Bool
has_values n ns = int_eq (pos (counting.different_values ns)) n

pub distinct_line : (y : Range) (o : Option ℤ) (p : Option (List ℤ)) → (line_of global.DifferentValues).value (option_map values.int o ∷ array_of y p ∷ []) ≡ Some (values.bool (found (λ v. found (has_values v) p) o))
unfolding line_of
distinct_line y o p =
    ap (λ q. truth (q >>= λ n. ints_at (option_map values.int o ∷ array_of y p ∷ []) 1 >>= λ ms. Some (has_values n ms))) (int_is (option_map values.int o ∷ array_of y p ∷ []) 0 o (at_first (option_map values.int o) (array_of y p ∷ [])))
    ∙ ap (λ q. truth (o >>= λ n. q >>= λ ms. Some (has_values n ms))) (ints_are (option_map values.int o ∷ array_of y p ∷ []) 1 y p (at_second (option_map values.int o) (array_of y p) []))
    ∙ two_found has_values o p
