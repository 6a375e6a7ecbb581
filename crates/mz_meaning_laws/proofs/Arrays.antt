-- Arrays, accesses, declared sets and branches over cells: they keep outlines.
use Rattle.std.proofs.Common.{◌≡◌, ℕ, ◌+◌, pos, Bool, true, false, not, ◌&&◌, List, [], ◌∷◌, ◌++◌, map, length, Option, Some, None, refl, sym, ap, ◌∙◌, nat_eq, unwrap_or, option_map, if◌then◌else◌}
use Rattle.std.specs.List.{list_all}
use Rattle.std.proofs.lemmas.List.{map-append, length-map}
use Rattle.mz_base.specs.declared.fault.Span.{Span}
use Rattle.mz_base.specs.declared.kind.Kind.TheVariants as kind
use Rattle.mz_value.specs.Ranges.{Range}
use Rattle.mz_value.specs.Contents.{Content, contents}
use Rattle.mz_value.specs.Contents as values
use Rattle.mz_interval.specs.Ends.{Ends}
use Rattle.mz_core.specs.Types.{PlainType}
use Rattle.mz_core.specs.Order.{no_dims}
use Rattle.mz_operations.specs.Arrays.{place_count}
use Rattle.mz_operations.specs.Bounds.{Bounds, Bound}
use Rattle.mz_operations.specs.Bounds as bounds
use Rattle.mz_operations.specs.RowBounds.{line_of}
use Rattle.mz_meaning.specs.Runs.{Run, give, stop}
use Rattle.mz_meaning.specs.Cells.{Cell, Par, Var, Unshaped, Mode, Blank, held, undefined, all_par, is_par, is_there, value_of, bounds_in, scalar_bound, length_of, or_zero, both_sure}
use Rattle.mz_meaning.specs.Arrays as arrays
use Rattle.mz_meaning.specs.Arrays.{Want, Anything, Missing, Within, line_cell, line_value, table_cell, joined, row_length, table_ranges, par_undefined, all_there, ends_in, hull_over, elements_reached, accessed, access_cell, suits, has_set, own_ranges, declared_ranges, declared_count, fits_shape, no_missing, moved, fitted_to, fitted, branch_bounds_of, all_bounds, same_shape, branches_cell, chosen_value, branch_cell}
use Rattle.mz_meaning.specs.Lets.{all_have_sets}
use Rattle.mz_meaning.specs.Calls.{argument_suits, all_lengths}
use Rattle.mz_meaning_laws.specs.Outlines.{outline, outlines, outline_rows, outline_branch, outline_sure}
use Rattle.mz_meaning_laws.specs.Ties.{Tie, HasOutline}
use Rattle.mz_meaning_laws.proofs.Joins.{give_outlined, stop_outlined, if_outlined, at_same}
use Rattle.mz_meaning_laws.proofs.Cells.{both_equal, par_outline, bounds_outline, bounds_as_outline, index_outline, length_outline, scalar_outline, all_par_outline, all_par_same, map_outline, both_sure_outline}

abbrev element_bound : Cell → Bound
element_bound c = scalar_bound (bounds_in c)

-- a cell that is par with this value, or var in these bounds
abbrev par_or_var : Mode → Bool → Bounds → Option Content → Cell
par_or_var m p b v = if p then Par v else Var b (held m v)

par_or_var_outline : (m : Mode) (n p : Bool) (b : Bounds) (u v : Option Content) → (p ≡ true → u ≡ v) → par_or_var (Blank n) p b u ≡ outline (par_or_var m p b v)
par_or_var_outline m n true b u v h = ap (λ x. Par x) (h refl)
par_or_var_outline m n false b u v h = refl

-- ---- arrays

pub line_outline : (m : Mode) (n : Bool) (cs : List Cell) → line_cell (Blank n) (outlines cs) ≡ outline (line_cell m cs)
line_outline m n cs =
    both_equal (λ p bs. par_or_var (Blank n) p (line_of bs) (line_value (outlines cs))) (all_par_outline cs) (map_outline element_bound scalar_outline cs)
    ∙ par_or_var_outline m n (all_par cs) (line_of (map element_bound cs)) (line_value (outlines cs)) (line_value cs) (λ h. ap line_value (all_par_same cs h))

-- ---- rows of a literal

joined_outline : (rs : List (List Cell)) → joined (outline_rows rs) ≡ outlines (joined rs)
joined_outline [] = refl
joined_outline (r ∷ rs) = ap (λ xs. outlines r ++ xs) (joined_outline rs) ∙ sym (map-append outline r (joined rs))

row_length_outline : (rs : List (List Cell)) → row_length (outline_rows rs) ≡ row_length rs
row_length_outline [] = refl
row_length_outline (r ∷ rs) = length-map r outline

levels_outline : (k : ℕ) (rs : List (List Cell)) → list_all (λ r. nat_eq (length r) k) (outline_rows rs) ≡ list_all (λ r. nat_eq (length r) k) rs
levels_outline k [] = refl
levels_outline k (r ∷ rs) = both_equal (λ p q. p && q) (ap (λ j. nat_eq j k) (length-map r outline)) (levels_outline k rs)

level_outline : (rs : List (List Cell)) → arrays.are_level (outline_rows rs) ≡ arrays.are_level rs
level_outline rs = ap (λ k. list_all (λ r. nat_eq (length r) k) (outline_rows rs)) (row_length_outline rs) ∙ levels_outline (row_length rs) rs

ranges_outline : (rs : List (List Cell)) → table_ranges (outline_rows rs) ≡ table_ranges rs
ranges_outline rs = both_equal (λ j k. (pos 1, pos j) ∷ (pos 1, pos k) ∷ []) (length-map rs outlines) (row_length_outline rs)

par_undefined_outline : (cs : List Cell) → par_undefined (outlines cs) ≡ par_undefined cs
par_undefined_outline cs = ap (λ p. p && not (is_there (all_there (map value_of (outlines cs))))) (all_par_outline cs) ∙ go (all_par cs) refl
  where
    go : (p : Bool) → all_par cs ≡ p → (p && not (is_there (all_there (map value_of (outlines cs))))) ≡ (p && not (is_there (all_there (map value_of cs))))
    go true h = ap (λ k. not (is_there (all_there (map value_of k)))) (all_par_same cs h)
    go false h = refl

-- the values of a table, in these ranges
abbrev value_over : List Range → List Cell → Option Content
value_over ix cs = option_map (λ xs. values.array ix (contents xs)) (all_there (map value_of cs))

abbrev table_over : Mode → List Range → List Cell → Cell
table_over m ix cs = par_or_var m (all_par cs) (bounds.many ix (map element_bound cs)) (value_over ix cs)

table_over_outline : (m : Mode) (n : Bool) (ix : List Range) (cs : List Cell) → table_over (Blank n) ix (outlines cs) ≡ outline (table_over m ix cs)
table_over_outline m n ix cs =
    both_equal (λ p bs. par_or_var (Blank n) p (bounds.many ix bs) (value_over ix (outlines cs))) (all_par_outline cs) (map_outline element_bound scalar_outline cs)
    ∙ par_or_var_outline m n (all_par cs) (bounds.many ix (map element_bound cs)) (value_over ix (outlines cs)) (value_over ix cs) (λ h. ap (value_over ix) (all_par_same cs h))

abbrev table_of : Mode → Span → Bool → Bool → List Range → List Cell → Run Cell
table_of m at u l ix cs = if u then give undefined else (if l then give (table_over m ix cs) else stop kind.IndexMismatch at (pos 0))

pub table_cell_outlined : {t : Tie} {n : Bool} (m : Mode) (at : Span) (rs : List (List Cell)) → HasOutline t n outline (table_cell m at rs) (table_cell (Blank n) at (outline_rows rs))
table_cell_outlined {n = n} m at rs =
    at_same (λ cs. table_of (Blank n) at (par_undefined cs) (arrays.are_level (outline_rows rs)) (table_ranges (outline_rows rs)) cs) (joined_outline rs)
    (at_same (λ u. table_of (Blank n) at u (arrays.are_level (outline_rows rs)) (table_ranges (outline_rows rs)) (outlines (joined rs))) (par_undefined_outline (joined rs))
    (at_same (λ l. table_of (Blank n) at (par_undefined (joined rs)) l (table_ranges (outline_rows rs)) (outlines (joined rs))) (level_outline rs)
    (at_same (λ ix. table_of (Blank n) at (par_undefined (joined rs)) (arrays.are_level rs) ix (outlines (joined rs))) (ranges_outline rs)
    (if_outlined (par_undefined (joined rs)) (give_outlined refl)
    (if_outlined (arrays.are_level rs) (give_outlined (table_over_outline m n (table_ranges rs) (joined rs))) (stop_outlined kind.IndexMismatch at (pos 0)))))))

-- ---- accesses

index_ends_outline : (c : Cell) → ends_in (element_bound (outline c)) ≡ ends_in (element_bound c)
index_ends_outline c = ap ends_in (scalar_outline c)

-- an array and its indices are par together, and then they are their own outlines
access_same : (a : Cell) (is : List Cell) → (is_par a && all_par is) ≡ true → accessed (value_of (outline a)) (map value_of (outlines is)) ≡ accessed (value_of a) (map value_of is)
access_same (Par v) is h = ap (λ k. accessed v (map value_of k)) (all_par_same is h)
access_same (Var b v) is h = absurd (cc)
access_same (Unshaped d) is h = absurd (cc)

abbrev reached_bounds : PlainType → Bounds → List Ends → Bounds
reached_bounds t b es = bounds.one (hull_over t (elements_reached b es))

pub access_outline : (m : Mode) (n : Bool) (t : PlainType) (a : Cell) (is : List Cell) → access_cell (Blank n) t (outline a) (outlines is) ≡ outline (access_cell m t a is)
access_outline m n t a is =
    both_equal (λ p e. par_or_var (Blank n) p e (accessed (value_of (outline a)) (map value_of (outlines is))))
    (both_equal (λ p q. p && q) (par_outline a) (all_par_outline is))
    (both_equal (reached_bounds t) (bounds_outline a) (map_outline (λ c. ends_in (element_bound c)) index_ends_outline is))
    ∙ par_or_var_outline m n (is_par a && all_par is) (reached_bounds t (bounds_in a) (map (λ c. ends_in (element_bound c)) is)) (accessed (value_of (outline a)) (map value_of (outlines is))) (accessed (value_of a) (map value_of is)) (access_same a is)

-- ---- declared sets

pub suits_outline : (x : Want) (c : Cell) → suits x (outline c) ≡ outline_sure (suits x c)
suits_outline Anything (Par v) = refl
suits_outline Anything (Var b v) = refl
suits_outline Anything (Unshaped d) = refl
suits_outline Missing c = refl
suits_outline (Within u) (Par v) = refl
suits_outline (Within u) (Var b v) = refl
suits_outline (Within u) (Unshaped d) = refl

pub has_set_outline : (x : Want) → has_set x ≡ outline_sure (has_set x)
has_set_outline Anything = refl
has_set_outline Missing = refl
has_set_outline (Within u) = refl

pub all_have_sets_outline : (xs : List Want) → all_have_sets xs ≡ outline_sure (all_have_sets xs)
all_have_sets_outline [] = refl
all_have_sets_outline (x ∷ xs) = both_equal both_sure (has_set_outline x) (all_have_sets_outline xs) ∙ both_sure_outline (has_set x) (all_have_sets xs)

pub argument_suits_outline : (result parameter : Bool) (x : Want) (c : Cell) → argument_suits result parameter x (outline c) ≡ outline_sure (argument_suits result parameter x c)
argument_suits_outline true p x c = suits_outline x c
argument_suits_outline false false x c = suits_outline x c
argument_suits_outline false true x c = has_set_outline x

-- ---- declared index sets

own_ranges_outline : (c : Cell) → own_ranges (outline c) ≡ own_ranges c
own_ranges_outline c = ap (λ r. unwrap_or r []) (index_outline c)

pub count_outline : (xs : List Want) (c : Cell) → declared_count xs (outline c) ≡ declared_count xs c
count_outline [] c = refl
count_outline (x ∷ xs) c = ap (λ own. place_count (declared_ranges (x ∷ xs) own)) (own_ranges_outline c)

moved_outline : (ix : List Range) (c : Cell) → moved ix (outline c) ≡ outline (moved ix c)
moved_outline ix (Par v) = refl
moved_outline ix (Var b v) = refl
moved_outline ix (Unshaped d) = refl

fitted_to_outlined : {t : Tie} {n : Bool} (at : Span) (xs : List Want) (own : List Range) (k : Option ℕ) (c : Cell) → HasOutline t n outline (fitted_to at xs own k c) (fitted_to at xs own k (outline c))
fitted_to_outlined at xs own None c = give_outlined refl
fitted_to_outlined at xs own (Some k) c = if_outlined (fits_shape xs own k) (give_outlined (moved_outline (declared_ranges xs own) c)) (stop_outlined kind.IndexMismatch at (pos 0))

pub fitted_outlined : {t : Tie} {n : Bool} (at : Span) (xs : List Want) (c : Cell) → HasOutline t n outline (fitted at xs c) (fitted at xs (outline c))
fitted_outlined at [] c = give_outlined refl
fitted_outlined at (x ∷ xs) c =
    if_outlined (no_missing (x ∷ xs))
    (at_same (λ own. fitted_to at (x ∷ xs) own (length_of (outline c)) (outline c)) (own_ranges_outline c)
    (at_same (λ k. fitted_to at (x ∷ xs) (own_ranges c) k (outline c)) (length_outline c) (fitted_to_outlined at (x ∷ xs) (own_ranges c) (length_of c) c)))
    (give_outlined refl)

-- ---- what is handed on

pub elements_outline : (c : Cell) → or_zero (length_of (outline c)) ≡ or_zero (length_of c)
elements_outline c = ap or_zero (length_outline c)

pub all_lengths_outline : (k : ℕ) (cs : List Cell) → all_lengths k (outlines cs) ≡ all_lengths k cs
all_lengths_outline k [] = refl
all_lengths_outline k (c ∷ cs) = ap (λ j. all_lengths (k + j) (outlines cs)) (elements_outline c) ∙ all_lengths_outline (k + or_zero (length_of c)) cs

-- ---- the branches of an `if`

branch_bounds_outline : (t : PlainType) (c : Cell) → branch_bounds_of t (outline c) ≡ branch_bounds_of t c
branch_bounds_outline t c =
    both_equal (λ b r. if no_dims t.dims then Some b else r) (bounds_as_outline t c) (both_equal (λ b r. option_map (λ _. b) r) (bounds_outline c) (index_outline c))

branches_outline : (ps : List (Cell × Cell)) (last : Cell) → map (λ p. p.1) (map outline_branch ps) ++ outline last ∷ [] ≡ outlines (map (λ p. p.1) ps ++ last ∷ [])
branches_outline [] last = refl
branches_outline (p ∷ ps) last = ap (λ xs. outline p.1 ∷ xs) (branches_outline ps last)

branches_cell_outlined : {t : Tie} {n : Bool} (m : Mode) (ty : PlainType) (at : Span) (bs : List Bounds) (u v : Option Content) → HasOutline t n outline (branches_cell m ty at bs v) (branches_cell (Blank n) ty at bs u)
branches_cell_outlined m ty at [] u v = give_outlined refl
branches_cell_outlined m ty at (b ∷ bs) u v = if_outlined (list_all (same_shape b) bs) (give_outlined refl) (stop_outlined kind.IndexMismatch at (pos 0))

pub branch_cell_outlined : {t : Tie} {n : Bool} (m : Mode) (ty : PlainType) (at : Span) (ps : List (Cell × Cell)) (last : Cell) → HasOutline t n outline (branch_cell m ty at ps last) (branch_cell (Blank n) ty at (map outline_branch ps) (outline last))
branch_cell_outlined {n = n} m ty at ps last =
    if_outlined (not ty.var) (give_outlined refl)
    (at_same (λ bs. branches_cell (Blank n) ty at (all_bounds bs) (chosen_value (map outline_branch ps) (outline last)))
    (ap (map (branch_bounds_of ty)) (branches_outline ps last) ∙ map_outline (branch_bounds_of ty) (branch_bounds_outline ty) (map (λ p. p.1) ps ++ last ∷ []))
    (branches_cell_outlined m ty at (all_bounds (map (branch_bounds_of ty) (map (λ p. p.1) ps ++ last ∷ []))) (chosen_value (map outline_branch ps) (outline last)) (chosen_value ps last)))
