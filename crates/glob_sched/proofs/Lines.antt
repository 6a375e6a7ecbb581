-- The lines of the globals of scheduling, over arguments that may be undefined.
use Rattle.std.proofs.Common.{◌≡◌, ◌∙◌, ℤ, Bool, List, [], ◌∷◌, zip, Option, Some, None, refl}
use Rattle.std.specs.Option.{option_map}
use Rattle.mz_value.specs.Ranges.{Range}
use Rattle.mz_value.specs.Contents.{Content}
use Rattle.mz_value.specs.Contents as values
use Rattle.mz_operations.specs.Views.{◌>>=◌, as_int}
use Rattle.mz_operations.specs.Arguments.{int_at}
use Rattle.mz_globals.specs.declared.global.Global.TheVariants as global
use Rattle.mz_globals.specs.Reading.{Placed, ints_at, placed_at}
use Rattle.mz_globals.specs.Scheduling as scheduling
use Rattle.mz_globals.specs.Table.{line_of, truth}
use Rattle.glob_nodes.specs.Arguments.{array_of}
use Rattle.glob_nodes.proofs.Rows.{found, ints_are, int_is, at_first, at_second, at_third}
use Rattle.glob_nodes.proofs.Several.{at_fourth, same_two, same_three, same_four, placed, placed_of, placed_are}

-- ---- two arrays side by side

abbrev zipped_of : (List (ℤ × ℤ) → Bool) → Option (List ℤ) → Option (List ℤ) → Option Content
zipped_of f o p = truth ((o >>= λ xs. p >>= λ ys. Some (zip xs ys)) >>= λ ks. Some (f ks))

zipped_found : (f : List (ℤ × ℤ) → Bool) (o p : Option (List ℤ)) → zipped_of f o p ≡ Some (values.bool (found (λ us. found (λ vs. f (zip us vs)) p) o))
zipped_found f None p = refl
zipped_found f (Some us) None = refl
zipped_found f (Some us) (Some vs) = refl

two_arrays : (f : List (ℤ × ℤ) → Bool) (x y : Range) (o p : Option (List ℤ)) → zipped_of f (ints_at (array_of x o ∷ array_of y p ∷ []) 0) (ints_at (array_of x o ∷ array_of y p ∷ []) 1) ≡ Some (values.bool (found (λ us. found (λ vs. f (zip us vs)) p) o))
two_arrays f x y o p =
    same_two (zipped_of f) (ints_at (array_of x o ∷ array_of y p ∷ []) 0) o (ints_at (array_of x o ∷ array_of y p ∷ []) 1) p
    (ints_are (array_of x o ∷ array_of y p ∷ []) 0 x o (at_first (array_of x o) (array_of y p ∷ [])))
    (ints_are (array_of x o ∷ array_of y p ∷ []) 1 y p (at_second (array_of x o) (array_of y p) []))
    ∙ zipped_found f o p

pub disjunctive_line : (x y : Range) (o p : Option (List ℤ)) → (line_of global.Disjunctive).value (array_of x o ∷ array_of y p ∷ []) ≡ Some (values.bool (found (λ us. found (λ vs. scheduling.is_disjunctive (zip us vs)) p) o))
unfolding line_of
disjunctive_line x y o p = two_arrays scheduling.is_disjunctive x y o p

pub strict_line : (x y : Range) (o p : Option (List ℤ)) → (line_of global.DisjunctiveStrict).value (array_of x o ∷ array_of y p ∷ []) ≡ Some (values.bool (found (λ us. found (λ vs. scheduling.is_strictly_disjunctive (zip us vs)) p) o))
unfolding line_of
strict_line x y o p = two_arrays scheduling.is_strictly_disjunctive x y o p

-- ---- boxes

abbrev boxes_of : Option (List ℤ) → Option (List ℤ) → Option (List ℤ) → Option (List ℤ) → Option Content
boxes_of o p dx dy = truth (((o >>= λ xs. dx >>= λ ys. Some (zip xs ys)) >>= λ xs. (p >>= λ us. dy >>= λ vs. Some (zip us vs)) >>= λ ys. Some (zip xs ys)) >>= λ ks. Some (scheduling.is_diffn ks))

boxes_found : (o p dx dy : Option (List ℤ)) → boxes_of o p dx dy ≡ Some (values.bool (found (λ us. found (λ dus. found (λ vs. found (λ dvs. scheduling.is_diffn (zip (zip us dus) (zip vs dvs))) dy) p) dx) o))
boxes_found None p dx dy = refl
boxes_found (Some us) p None dy = refl
boxes_found (Some us) None (Some dus) dy = refl
boxes_found (Some us) (Some vs) (Some dus) None = refl
boxes_found (Some us) (Some vs) (Some dus) (Some dvs) = refl

pub diffn_line : (x y v w : Range) (o p dx dy : Option (List ℤ)) → (line_of global.Diffn).value (array_of x o ∷ array_of y p ∷ array_of v dx ∷ array_of w dy ∷ []) ≡ Some (values.bool (found (λ us. found (λ dus. found (λ vs. found (λ dvs. scheduling.is_diffn (zip (zip us dus) (zip vs dvs))) dy) p) dx) o))
unfolding line_of
diffn_line x y v w o p dx dy =
    same_four boxes_of (ints_at (array_of x o ∷ array_of y p ∷ array_of v dx ∷ array_of w dy ∷ []) 0) o (ints_at (array_of x o ∷ array_of y p ∷ array_of v dx ∷ array_of w dy ∷ []) 1) p (ints_at (array_of x o ∷ array_of y p ∷ array_of v dx ∷ array_of w dy ∷ []) 2) dx (ints_at (array_of x o ∷ array_of y p ∷ array_of v dx ∷ array_of w dy ∷ []) 3) dy
    (ints_are (array_of x o ∷ array_of y p ∷ array_of v dx ∷ array_of w dy ∷ []) 0 x o (at_first (array_of x o) (array_of y p ∷ array_of v dx ∷ array_of w dy ∷ [])))
    (ints_are (array_of x o ∷ array_of y p ∷ array_of v dx ∷ array_of w dy ∷ []) 1 y p (at_second (array_of x o) (array_of y p) (array_of v dx ∷ array_of w dy ∷ [])))
    (ints_are (array_of x o ∷ array_of y p ∷ array_of v dx ∷ array_of w dy ∷ []) 2 v dx (at_third (array_of x o) (array_of y p) (array_of v dx) (array_of w dy ∷ [])))
    (ints_are (array_of x o ∷ array_of y p ∷ array_of v dx ∷ array_of w dy ∷ []) 3 w dy (at_fourth (array_of x o) (array_of y p) (array_of v dx) (array_of w dy) []))
    ∙ boxes_found o p dx dy

-- ---- tasks that share a resource

abbrev tasks_of : Option (List ℤ) → Option (List ℤ) → Option (List ℤ) → Option ℤ → Option Content
tasks_of o p q b = truth (((o >>= λ xs. p >>= λ ys. Some (zip xs ys)) >>= λ ks. q >>= λ rs. Some (zip ks rs)) >>= λ us. b >>= λ m. Some (scheduling.is_cumulative us m))

tasks_found : (o p q : Option (List ℤ)) (b : Option ℤ) → tasks_of o p q b ≡ Some (values.bool (found (λ us. found (λ vs. found (λ ws. found (λ m. scheduling.is_cumulative (zip (zip us vs) ws) m) b) q) p) o))
tasks_found None p q b = refl
tasks_found (Some us) None q b = refl
tasks_found (Some us) (Some vs) None b = refl
tasks_found (Some us) (Some vs) (Some ws) None = refl
tasks_found (Some us) (Some vs) (Some ws) (Some m) = refl

pub cumulative_line : (x y z : Range) (o p q : Option (List ℤ)) (b : Option ℤ) → (line_of global.Cumulative).value (array_of x o ∷ array_of y p ∷ array_of z q ∷ option_map values.int b ∷ []) ≡ Some (values.bool (found (λ us. found (λ vs. found (λ ws. found (λ m. scheduling.is_cumulative (zip (zip us vs) ws) m) b) q) p) o))
unfolding line_of
cumulative_line x y z o p q b =
    same_four tasks_of (ints_at (array_of x o ∷ array_of y p ∷ array_of z q ∷ option_map values.int b ∷ []) 0) o (ints_at (array_of x o ∷ array_of y p ∷ array_of z q ∷ option_map values.int b ∷ []) 1) p (ints_at (array_of x o ∷ array_of y p ∷ array_of z q ∷ option_map values.int b ∷ []) 2) q (int_at (array_of x o ∷ array_of y p ∷ array_of z q ∷ option_map values.int b ∷ []) 3) b
    (ints_are (array_of x o ∷ array_of y p ∷ array_of z q ∷ option_map values.int b ∷ []) 0 x o (at_first (array_of x o) (array_of y p ∷ array_of z q ∷ option_map values.int b ∷ [])))
    (ints_are (array_of x o ∷ array_of y p ∷ array_of z q ∷ option_map values.int b ∷ []) 1 y p (at_second (array_of x o) (array_of y p) (array_of z q ∷ option_map values.int b ∷ [])))
    (ints_are (array_of x o ∷ array_of y p ∷ array_of z q ∷ option_map values.int b ∷ []) 2 z q (at_third (array_of x o) (array_of y p) (array_of z q) (option_map values.int b ∷ [])))
    (int_is (array_of x o ∷ array_of y p ∷ array_of z q ∷ option_map values.int b ∷ []) 3 b (at_fourth (array_of x o) (array_of y p) (array_of z q) (option_map values.int b) []))
    ∙ tasks_found o p q b

-- ---- things in bins

abbrev things_of : Option ℤ → Option (List ℤ) → Option (List ℤ) → Option Content
things_of c o p = truth (c >>= λ m. (o >>= λ xs. p >>= λ ys. Some (zip xs ys)) >>= λ ks. Some (scheduling.packs m ks))

things_found : (c : Option ℤ) (o p : Option (List ℤ)) → things_of c o p ≡ Some (values.bool (found (λ m. found (λ us. found (λ vs. scheduling.packs m (zip us vs)) p) o) c))
things_found None o p = refl
things_found (Some m) None p = refl
things_found (Some m) (Some us) None = refl
things_found (Some m) (Some us) (Some vs) = refl

pub packing_line : (x y : Range) (c : Option ℤ) (o p : Option (List ℤ)) → (line_of global.Packing).value (option_map values.int c ∷ array_of x o ∷ array_of y p ∷ []) ≡ Some (values.bool (found (λ m. found (λ us. found (λ vs. scheduling.packs m (zip us vs)) p) o) c))
unfolding line_of
packing_line x y c o p =
    same_three things_of (int_at (option_map values.int c ∷ array_of x o ∷ array_of y p ∷ []) 0) c (ints_at (option_map values.int c ∷ array_of x o ∷ array_of y p ∷ []) 1) o (ints_at (option_map values.int c ∷ array_of x o ∷ array_of y p ∷ []) 2) p
    (int_is (option_map values.int c ∷ array_of x o ∷ array_of y p ∷ []) 0 c (at_first (option_map values.int c) (array_of x o ∷ array_of y p ∷ [])))
    (ints_are (option_map values.int c ∷ array_of x o ∷ array_of y p ∷ []) 1 x o (at_second (option_map values.int c) (array_of x o) (array_of y p ∷ [])))
    (ints_are (option_map values.int c ∷ array_of x o ∷ array_of y p ∷ []) 2 y p (at_third (option_map values.int c) (array_of x o) (array_of y p) []))
    ∙ things_found c o p

abbrev loads_of : Option (Placed ℤ) → Option (List ℤ) → Option (List ℤ) → Option Content
loads_of l o p = truth (l >>= λ ls. (o >>= λ xs. p >>= λ ys. Some (zip xs ys)) >>= λ ks. Some (scheduling.are_loads ls ks))

loads_found : (x : Range) (l o p : Option (List ℤ)) → loads_of (placed_of x l) o p ≡ Some (values.bool (found (λ ls. found (λ us. found (λ vs. scheduling.are_loads (placed x ls) (zip us vs)) p) o) l))
loads_found x None o p = refl
loads_found x (Some ls) None p = refl
loads_found x (Some ls) (Some us) None = refl
loads_found x (Some ls) (Some us) (Some vs) = refl

pub load_line : (x y z : Range) (l o p : Option (List ℤ)) → (line_of global.PackingLoad).value (array_of x l ∷ array_of y o ∷ array_of z p ∷ []) ≡ Some (values.bool (found (λ ls. found (λ us. found (λ vs. scheduling.are_loads (placed x ls) (zip us vs)) p) o) l))
unfolding line_of
load_line x y z l o p =
    same_three loads_of (placed_at as_int (array_of x l ∷ array_of y o ∷ array_of z p ∷ []) 0) (placed_of x l) (ints_at (array_of x l ∷ array_of y o ∷ array_of z p ∷ []) 1) o (ints_at (array_of x l ∷ array_of y o ∷ array_of z p ∷ []) 2) p
    (placed_are (array_of x l ∷ array_of y o ∷ array_of z p ∷ []) 0 x l (at_first (array_of x l) (array_of y o ∷ array_of z p ∷ [])))
    (ints_are (array_of x l ∷ array_of y o ∷ array_of z p ∷ []) 1 y o (at_second (array_of x l) (array_of y o) (array_of z p ∷ [])))
    (ints_are (array_of x l ∷ array_of y o ∷ array_of z p ∷ []) 2 z p (at_third (array_of x l) (array_of y o) (array_of z p) []))
    ∙ loads_found x l o p
