-- The bounds of sets and arrays that are made.
use Rattle.std.proofs.Common.{◌≡◌, ℕ, zero, suc, ◌+◌, ◌-◌, ◌<◌, ◌≤◌, List, [], ◌∷◌, ◌++◌, map, length, take, drop, refl, sym, ap, ◌∙◌, arith}
use Rattle.std.proofs.lemmas.List.{length-map, length-take-le, take-map, drop-map, take_all, drop_all, append-nil}
use Rattle.std.specs.Prelude.{Option, Some, None, slice_get}
use Rattle.std.specs.Option.{option_map}
use Rattle.mz_value.specs.Ranges.{Range}
use Rattle.mz_operations.specs.declared.row.MadeRow.TheVariants.{Shaped}
use Rattle.mz_operations.specs.declared.row.Row.TheVariants.{Made}
use Rattle.mz_operations.specs.Views.{◌>>=◌}
use Rattle.mz_operations.specs.Arrays.{index_range}
use Rattle.mz_operations.specs.Bounds.{Bound, Bounds}
use Rattle.mz_operations.specs.Bounds as bounds
use Rattle.mz_operations.specs.RowBounds.{each, as_one, as_upper, as_elements, uppers_before, elements_at, bounds_at, made_bounds}
use Rattle.mz_meaning.specs.Cells.{bounds_in, scalar_bound}
use Rattle.mz_meaning.specs.Operations.{index_set_bounds, argument_bounds}
use Rattle.mz_eval_cells.specs.declared.types.Known.{Known}
use Rattle.mz_eval_cells.specs.Views.{cell_of, cells_of}
use Rattle.mz_eval_row_bounds.specs.Arguments.{all_bounds}
use Rattle.mz_eval_row_bounds.specs.StepsMade.{at_most, index_set_of, set_range, shaped_of}

pub most_of_all : (f : List (List Range) → List Range) (o : Option (List (List Range))) → option_map at_most (option_map f o) ≡ (o >>= λ us. Some (at_most (f us)))
most_of_all f None = refl
most_of_all f (Some us) = refl

-- ---- index sets

upper_in : (b : Bounds) → (as_one b >>= as_upper) ≡ as_upper (scalar_bound b)
upper_in (bounds.one b) = refl
upper_in (bounds.many ix bs) = refl

one_upper : (n : ℕ) (b : Bounds) (bs : List Bounds) → uppers_before (suc n) (b ∷ bs) ≡ (as_one b >>= as_upper >>= λ u. uppers_before n bs >>= λ us. Some (u ∷ us))
unfolding uppers_before
one_upper n b bs = refl

no_upper : (bs : List Bounds) → uppers_before zero bs ≡ Some []
unfolding uppers_before
no_upper bs = refl

few_uppers : (n : ℕ) → uppers_before (suc n) [] ≡ None
unfolding uppers_before
few_uppers n = refl

one_each : (b : Bound) (bs : List Bound) → each set_range (b ∷ bs) ≡ (set_range b >>= λ a. each set_range bs >>= λ rest. Some (a ∷ rest))
unfolding each
one_each b bs = refl

no_each : each set_range [] ≡ Some []
unfolding each
no_each = refl

mapped_twice : (o : Option (List Range)) (p : Option (List (List Range))) → option_map (map index_range) (o >>= λ u. p >>= λ us. Some (u ∷ us)) ≡ (option_map index_range o >>= λ a. option_map (map index_range) p >>= λ rest. Some (a ∷ rest))
mapped_twice None p = refl
mapped_twice (Some u) None = refl
mapped_twice (Some u) (Some us) = refl

uppers_are : (ks : List Known) (more : List Bounds) → option_map (map index_range) (uppers_before (length ks) (map index_set_bounds (cells_of ks) ++ more)) ≡ each set_range (map index_set_of ks)
uppers_are [] more = ap (option_map (map index_range)) (no_upper more) ∙ sym no_each
uppers_are (k ∷ ks) more =
    let b = index_set_bounds (cell_of k) in
    let bs = map index_set_bounds (cells_of ks) ++ more in
    ap (option_map (map index_range)) (one_upper (length ks) b bs ∙ ap (λ o. o >>= λ u. uppers_before (length ks) bs >>= λ us. Some (u ∷ us)) (upper_in b))
    ∙ mapped_twice (as_upper (scalar_bound b)) (uppers_before (length ks) bs)
    ∙ ap (λ rest. set_range (index_set_of k) >>= λ a. rest >>= λ ys. Some (a ∷ ys)) (uppers_are ks more)
    ∙ sym (one_each (index_set_of k) (map index_set_of ks))

get_behind : (xs ys : List Bounds) → slice_get (xs ++ ys) (length xs) ≡ slice_get ys 0
get_behind [] ys = refl
get_behind (x ∷ xs) ys = get_behind xs ys

elements_behind : (xs ys : List Bounds) → elements_at (xs ++ ys) (length xs) ≡ elements_at ys 0
unfolding elements_at bounds_at
elements_behind xs ys = ap (λ o. o >>= as_elements) (get_behind xs ys)

shaped_row : (d : ℕ) (bs : List Bounds) → made_bounds (Shaped d) bs ≡ (uppers_before d bs >>= λ us. elements_at bs d >>= λ ps. Some (bounds.many (map index_range us) ps))
unfolding made_bounds
shaped_row d bs = refl

shaped_parts : (o : Option (List (List Range))) (p : Option (List Bound)) → shaped_of (option_map (map index_range) o) p ≡ (o >>= λ us. p >>= λ ps. Some (bounds.many (map index_range us) ps))
shaped_parts None p = refl
shaped_parts (Some us) p = refl

shaped_by : (front back : List Known) → shaped_of (each set_range (map index_set_of front)) (elements_at (all_bounds back) 0) ≡ made_bounds (Shaped (length front)) (map index_set_bounds (cells_of front) ++ all_bounds back)
shaped_by front back =
    let bs = map index_set_bounds (cells_of front) ++ all_bounds back in
    let count : length (map index_set_bounds (cells_of front)) ≡ length front = length-map (cells_of front) index_set_bounds ∙ length-map front cell_of in
    let last : elements_at (all_bounds back) 0 ≡ elements_at bs (length front) = sym (elements_behind (map index_set_bounds (cells_of front)) (all_bounds back)) ∙ ap (elements_at bs) count in
    ap (λ o. shaped_of o (elements_at (all_bounds back) 0)) (sym (uppers_are front (all_bounds back)))
    ∙ ap (shaped_of (option_map (map index_range) (uppers_before (length front) bs))) last
    ∙ shaped_parts (uppers_before (length front) bs) (elements_at bs (length front))
    ∙ sym (shaped_row (length front) bs)

pub shaped : (d : ℕ) (ks front back : List Known) (r : Option Bounds) → d ≤ length ks → front ≡ take d ks → back ≡ drop d ks → r ≡ shaped_of (each set_range (map index_set_of front)) (elements_at (all_bounds back) 0) → r ≡ made_bounds (Shaped d) (argument_bounds (Made (Shaped d)) (cells_of ks))
shaped d ks front back r l f b m =
    let count : length front ≡ d = ap length f ∙ length-take-le d ks l in
    let first : map index_set_bounds (cells_of front) ≡ map index_set_bounds (take d (cells_of ks)) = ap (λ z. map index_set_bounds (cells_of z)) f ∙ ap (map index_set_bounds) (sym (take-map cell_of d ks)) in
    let second : all_bounds back ≡ map bounds_in (drop d (cells_of ks)) = ap all_bounds b ∙ ap (map bounds_in) (sym (drop-map cell_of d ks)) in
    m ∙ shaped_by front back ∙ ap (λ n. made_bounds (Shaped n) (map index_set_bounds (cells_of front) ++ all_bounds back)) count
    ∙ ap (λ z. made_bounds (Shaped d) (z ++ all_bounds back)) first ∙ ap (λ z. made_bounds (Shaped d) (map index_set_bounds (take d (cells_of ks)) ++ z)) second

abbrev no_sets : Option (List (List Range))
no_sets = None

few : (n : ℕ) (bs : List Bounds) → length bs < n → uppers_before n bs ≡ None
few zero bs l = absurd (omega arith)
few (suc n) [] l = few_uppers n
few (suc n) (b ∷ bs) l =
    one_upper n b bs ∙ ap (λ p. as_one b >>= as_upper >>= λ u. p >>= λ us. Some (u ∷ us)) (few n bs (omega arith)) ∙ nothing (as_one b >>= as_upper)
  where
    nothing : (o : Option (List Range)) → (o >>= λ u. no_sets >>= λ us. Some (u ∷ us)) ≡ no_sets
    nothing None = refl
    nothing (Some u) = refl

pub too_few : (d : ℕ) (ks : List Known) → length ks < d → None ≡ made_bounds (Shaped d) (argument_bounds (Made (Shaped d)) (cells_of ks))
too_few d ks l =
    let cs = cells_of ks in
    let count : length cs ≡ length ks = length-map ks cell_of in
    let all : take d cs ≡ cs = take_all d cs (omega (arith, count)) in
    let rest : drop d cs ≡ [] = drop_all d cs (omega (arith, count)) in
    let list : argument_bounds (Made (Shaped d)) cs ≡ map index_set_bounds cs ++ [] = ap (λ z. map index_set_bounds z ++ map bounds_in (drop d cs)) all ∙ ap (λ z. map index_set_bounds cs ++ map bounds_in z) rest in
    let short : length (map index_set_bounds cs ++ []) ≡ length ks = ap length (append-nil (map index_set_bounds cs)) ∙ length-map cs index_set_bounds ∙ count in
    sym (ap (made_bounds (Shaped d)) list ∙ shaped_row d (map index_set_bounds cs ++ []) ∙ ap (λ o. o >>= λ us. elements_at (map index_set_bounds cs ++ []) d >>= λ ps. Some (bounds.many (map index_range us) ps)) (few d (map index_set_bounds cs ++ []) (omega (arith, short))))
