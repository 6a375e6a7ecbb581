-- Accesses and the places that they reach.
use Rattle.std.proofs.Common.{◌≡◌, ◌∙◌, ℕ, zero, suc, ◌≤◌, List, [], ◌∷◌, map, length, min, refl, sym, ap, arith, drop}
use Rattle.std.specs.Prelude.{ℤ, pos, Option, Some, None, option_map, slice_get}
use Rattle.std.specs.Option.{option_and_then}
use Rattle.std.proofs.lemmas.Int.{ints, by_lt_z}
use Rattle.mz_value.specs.Ranges.{Range}
use Rattle.std.proofs.lemmas.List.{drop-map, length-map}
use Rattle.mz_value.specs.declared.value.Value.{Value}
use Rattle.mz_value.specs.Contents.{Content, content, contents}
use Rattle.mz_value.specs.Contents as values
use Rattle.mz_index.specs.Places.{place_of, most}
use Rattle.mz_operations.specs.Bounds.{bound_of}
use Rattle.mz_builtin_arguments.proofs.Views.{items_in_contents}
use Rattle.mz_meaning.specs.Cells.{value_of}
use Rattle.mz_meaning.specs.Arrays.{indices_in, element_at, accessed}
use Rattle.mz_eval_cells.specs.declared.types.Bound.{Bound}
use Rattle.mz_eval_cells.specs.declared.types.Item.{Item}
use Rattle.mz_eval_cells.specs.declared.types.Item.TheVariants as item
use Rattle.mz_eval_cells.specs.declared.types.Known.{Known}
use Rattle.mz_eval_cells.specs.Views.{cells_of, item_content, known_bound}
use Rattle.mz_eval_access.specs.Places.{placed}

-- ---- the element at a place

element_placed : (ix : List Range) (xs : List Content) (o : Option (List ℤ)) → option_and_then (element_at (values.array ix (contents xs))) o ≡ option_and_then (slice_get xs) (option_and_then (place_of ix) o)
element_placed ix xs None = refl
element_placed ix xs (Some is) = ap (λ ys. option_and_then (slice_get ys) (place_of ix is)) (items_in_contents xs)

past_end : {X : Type 0} (xs : List X) (n : ℕ) → length xs ≤ n → slice_get xs n ≡ None
past_end [] n l = refl
past_end (x ∷ xs) zero l = absurd (omega arith)
past_end (x ∷ xs) (suc n) l = past_end xs n (omega arith)

capped_element : {X : Type 0} (xs : List X) (n : ℕ) → length xs ≤ most → slice_get xs (min most n) ≡ slice_get xs n
capped_element xs n l =
    by_lt_z (pos most) (pos n)
    (λ g. past_end xs (min most n) (omega (arith, ints)) ∙ sym (past_end xs n (omega (arith, ints))))
    (λ g. let same : min most n ≡ n = omega (arith, ints) in ap (slice_get xs) same)

capped_elements : {X : Type 0} (xs : List X) (o : Option ℕ) → length xs ≤ most → option_and_then (slice_get xs) (option_map (min most) o) ≡ option_and_then (slice_get xs) o
capped_elements xs None l = refl
capped_elements xs (Some n) l = capped_element xs n l

pub element_is : (ix : List Range) (vs : List Value) (ks : List Known) (o : Option ℕ) → length vs ≤ most → o ≡ placed ix (cells_of ks) → option_and_then (element_at (values.array ix (contents (map content vs)))) (indices_in (map value_of (cells_of ks))) ≡ option_and_then (slice_get (map content vs)) o
element_is ix vs ks o l e =
    let xs = map content vs in
    let is = indices_in (map value_of (cells_of ks)) in
    let same : length xs ≡ length vs = length-map vs content in
    let short : length xs ≤ most = omega (arith, same, l) in
    element_placed ix xs is ∙ sym (capped_elements xs (option_and_then (place_of ix) is) short) ∙ ap (option_and_then (slice_get xs)) (sym e)

-- what is no array has no element
pub no_element : (i : Item) (vs : List (Option Content)) → accessed (Some (item_content i)) vs ≡ None
no_element i vs = by (indices_in vs)
  where
    none : (i : Item) (is : List ℤ) → element_at (item_content i) is ≡ None
    none (item.Bool b) is = refl
    none (item.Int n) is = refl
    none (item.Enum e k) is = refl
    none item.Absent is = refl
    none (item.Set s) is = refl
    none (item.Text t) is = refl

    by : (o : Option (List ℤ)) → option_and_then (element_at (item_content i)) o ≡ None
    by None = refl
    by (Some is) = none i is

-- ---- elements from a place on

pub items_after : (xs ys : List Value) (m : ℕ) → ys ≡ drop m xs → map bound_of (map content ys) ≡ drop m (map bound_of (map content xs))
items_after xs ys m f = ap (λ zs. map bound_of (map content zs)) f ∙ sym (drop-map bound_of m (map content xs) ∙ ap (map bound_of) (drop-map content m xs))

pub bounds_after : (bs cs : List Bound) (m : ℕ) → cs ≡ drop m bs → map known_bound cs ≡ drop m (map known_bound bs)
bounds_after bs cs m f = ap (map known_bound) f ∙ sym (drop-map known_bound m bs)
