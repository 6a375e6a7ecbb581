-- Arrays among the arguments of a line, each with its index range.
use Rattle.std.proofs.Common.{◌≡◌, ◌∙◌, ℕ, Bool, List, [], ◌∷◌, map, Option, Some, None, refl, ap}
use Rattle.std.specs.Option.{option_map, option_and_then}
use Rattle.mz_value.specs.Ranges.{Range}
use Rattle.mz_value.specs.Contents.{Content, contents}
use Rattle.mz_value.specs.Contents as values
use Rattle.mz_operations.specs.Arguments.{Arguments, at, index_at, row_at}
use Rattle.mz_operations.specs.Views.{◌>>=◌, as_bool, as_index, as_int, as_row, items_in}
use Rattle.mz_operations.specs.Views.{as_set as set_in}
use Rattle.mz_globals.specs.Reading.{Placed, each, elements_at, first_range, placed_at}
use Rattle.mz_globals.specs.Table.{truth}
use Rattle.glob_nodes.proofs.Rows.{found}
use Rattle.glob_nodes.proofs.Several.{same_two}
use Rattle.glob_sets.specs.Arrays.{array_by}

-- a value that is made of something is read as it
abbrev pub IsRead : {A : Type 0} → (Content → Option A) → (A → Content) → Type 0
IsRead {A} see make = (v : A) → see (make v) ≡ Some v

pub ints_read : IsRead as_int values.int
unfolding as_int
ints_read n = refl

pub bools_read : IsRead as_bool values.bool
unfolding as_bool
bools_read b = refl

pub sets_read : IsRead set_in (values.set None)
unfolding set_in
sets_read s = refl

each_read : {A : Type 0} (see : Content → Option A) (make : A → Content) (vs : List A) → IsRead see make → each see (items_in (contents (map make vs))) ≡ Some vs
each_read see make [] e = refl
each_read {A} see make (v ∷ vs) e =
    ap (λ (o : Option A). o >>= λ a. each see (items_in (contents (map make vs))) >>= λ rest. Some (a ∷ rest)) (e v)
    ∙ ap (λ (o : Option (List A)). o >>= λ rest. Some (v ∷ rest)) (each_read see make vs e)

in_row : {A : Type 0} (see : Content → Option A) (make : A → Content) (x : Range) (o : Option (List A)) → IsRead see make → (option_and_then as_row (array_by make x o) >>= each see) ≡ o
unfolding as_row
in_row see make x None e = refl
in_row see make x (Some vs) e = each_read see make vs e

-- the array at a place
pub elements_are : {A : Type 0} (see : Content → Option A) (make : A → Content) (args : Arguments) (k : ℕ) (x : Range) (o : Option (List A)) → IsRead see make → at args k ≡ array_by make x o → elements_at see args k ≡ o
unfolding row_at
elements_are see make args k x o e h = ap (λ v. option_and_then as_row v >>= each see) h ∙ in_row see make x o e

-- ---- with its index range

abbrev pub placed : {A : Type 0} → Range → List A → Placed A
placed x vs = record { indices = x; items = vs }

abbrev pub placed_of : {A : Type 0} → Range → Option (List A) → Option (Placed A)
placed_of x o = option_map (placed x) o

abbrev index_of : Option Content → Option Range
index_of o = option_and_then as_index o >>= first_range

abbrev placed_from : {A : Type 0} → Option Range → Option (List A) → Option (Placed A)
placed_from i o = i >>= λ r. o >>= λ vs. Some (placed r vs)

found_index : {A : Type 0} (make : A → Content) (x : Range) (o : Option (List A)) → placed_from (index_of (array_by make x o)) o ≡ placed_of x o
unfolding as_index
found_index make x None = refl
found_index make x (Some vs) = refl

pub placed_are : {A : Type 0} (see : Content → Option A) (make : A → Content) (args : Arguments) (k : ℕ) (x : Range) (o : Option (List A)) → IsRead see make → at args k ≡ array_by make x o → placed_at see args k ≡ placed_of x o
unfolding index_at
placed_are {A} see make args k x o e h =
    same_two (λ (i : Option Range) (q : Option (List A)). placed_from i q) (index_of (at args k)) (index_of (array_by make x o)) (elements_at see args k) o (ap index_of h) (elements_are see make args k x o e h)
    ∙ found_index make x o

-- ---- what is found of two arguments

pub arrays_found : {A B : Type 0} (f : Placed A → Placed B → Bool) (x y : Range) (o : Option (List A)) (p : Option (List B)) → truth (placed_of x o >>= λ us. placed_of y p >>= λ vs. Some (f us vs)) ≡ Some (values.bool (found (λ us. found (λ vs. f (placed x us) (placed y vs)) p) o))
arrays_found f x y None p = refl
arrays_found f x y (Some us) None = refl
arrays_found f x y (Some us) (Some vs) = refl

pub array_found_of : {A B : Type 0} (f : A → Placed B → Bool) (y : Range) (o : Option A) (p : Option (List B)) → truth (o >>= λ a. placed_of y p >>= λ vs. Some (f a vs)) ≡ Some (values.bool (found (λ a. found (λ vs. f a (placed y vs)) p) o))
array_found_of f y None p = refl
array_found_of f y (Some a) None = refl
array_found_of f y (Some a) (Some vs) = refl
