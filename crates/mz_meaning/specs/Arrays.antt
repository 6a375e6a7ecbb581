-- Arrays, sets and accesses over cells; declared index sets; the branches of an `if`.
use Rattle.std.specs.Prelude.{ℕ, ◌+◌, ℤ, pos, Bool, true, false, not, ◌&&◌, ◌||◌, List, [], ◌∷◌, ◌++◌, map, length, slice_get, Option, Some, None, nat_eq, option_map, unwrap_or, if◌then◌else◌}
use Rattle.std.specs.Option.{option_and_then}
use Rattle.std.specs.List.{list_all}
use Rattle.mz_base.specs.declared.fault.Span.{Span}
use Rattle.mz_base.specs.declared.kind.Kind.TheVariants as kind
use Rattle.mz_value.specs.Ranges.{Range, range_of}
use Rattle.mz_value.specs.Contents.{Content, contents}
use Rattle.mz_value.specs.Contents as values
use Rattle.mz_index.specs.Places.{place_of}
use Rattle.mz_interval.specs.Ends.{Ends}
use Rattle.mz_core.specs.Types.{PlainType, is_set}
use Rattle.mz_core.specs.Order.{no_dims}
use Rattle.mz_operations.specs.Views.{items_in, as_element, as_ordinal}
use Rattle.mz_operations.specs.Sets.{union, contains, is_subset, is_empty_set, same_set}
use Rattle.mz_operations.specs.Arrays.{line, place_count, index_range}
use Rattle.mz_operations.specs.Bounds.{Bound, Bounds, nothing, hull_of_all, union_of_all, reached, if_bounds}
use Rattle.mz_operations.specs.Bounds as bounds
use Rattle.mz_operations.specs.RowBounds.{line_of}
use Rattle.mz_meaning.specs.Runs.{Run, give, stop}
use Rattle.mz_meaning.specs.Cells.{Cell, Par, Var, Unshaped, Mode, held, undefined, all_par, is_par, is_there, is_true, value_of, par_value_of, bounds_in, bounds_as, scalar_bound, element_bounds, index_of, length_of, Sure, unsure}
use Rattle.mz_meaning.specs.Coerced.{enum_in}

-- ---- arrays

-- all values, where each is there
abbrev pub all_there : List (Option Content) → Option (List Content)
all_there [] = Some []
all_there (None ∷ vs) = None
all_there (Some x ∷ vs) = option_map (λ xs. x ∷ xs) (all_there vs)

-- AN ARRAY WITH AN UNDEFINED ELEMENT IS UNDEFINED
abbrev pub line_value : List Cell → Option Content
line_value cs = option_map line (all_there (map value_of cs))

-- the elements in order, indexed from 1; par where all are
abbrev pub line_cell : Mode → List Cell → Cell
line_cell m cs =
    if all_par cs then Par (line_value cs) else Var (line_of (map (λ c. scalar_bound (bounds_in c)) cs)) (held m (line_value cs))

-- ---- rows of a literal

abbrev pub row_length : List (List Cell) → ℕ
row_length [] = 0
row_length (r ∷ rs) = length r

abbrev pub are_level : List (List Cell) → Bool
are_level rs = list_all (λ r. nat_eq (length r) (row_length rs)) rs

abbrev pub joined : List (List Cell) → List Cell
joined [] = []
joined (r ∷ rs) = r ++ joined rs

abbrev pub table_ranges : List (List Cell) → List Range
table_ranges rs = (pos 1, pos (length rs)) ∷ (pos 1, pos (row_length rs)) ∷ []

abbrev pub table_value : List (List Cell) → Option Content
table_value rs = option_map (λ xs. values.array (table_ranges rs) (contents xs)) (all_there (map value_of (joined rs)))

abbrev pub par_undefined : List Cell → Bool
par_undefined cs = all_par cs && not (is_there (all_there (map value_of cs)))

-- with an undefined par element the literal is undefined, and its rows' lengths aren't compared
abbrev pub table_cell : Mode → Span → List (List Cell) → Run Cell
table_cell m at rs =
    if par_undefined (joined rs)
    then give undefined
    else (if are_level rs
    then give (if all_par (joined rs) then Par (table_value rs) else Var (bounds.many (table_ranges rs) (map (λ c. scalar_bound (bounds_in c)) (joined rs))) (held m (table_value rs)))
    else stop kind.IndexMismatch at (pos 0))

-- ---- sets

-- an integer, the number of a case, or 0 and 1
abbrev pub number_in : Content → Option ℤ
number_in (values.bool b) = as_ordinal (values.bool b)
number_in x = as_element x

abbrev pub with_number : Option (List Range) → Option Content → Option (List Range)
with_number s v = option_and_then (λ rs. option_and_then (λ x. option_map (λ n. union rs (range_of n n)) (number_in x)) v) s

abbrev pub set_from : Option (List Range) → List (Option Content) → Option (List Range)
set_from s [] = s
set_from s (v ∷ vs) = set_from (with_number s v) vs

-- the set of par elements, at a node of this type
abbrev pub set_cell : PlainType → List Cell → Cell
set_cell t cs = Par (option_map (values.set (enum_in t.base)) (set_from (Some []) (map par_value_of cs)))

-- ---- accesses

abbrev pub ends_in : Bound → Ends
ends_in (bounds.number e) = e
ends_in (bounds.sets l u) = nothing

abbrev pub upper_in : Bound → List Range
upper_in (bounds.number e) = []
upper_in (bounds.sets l u) = u

-- the hull of places or elements of a type: 0..0 of no number; of sets nothing is sure, and at most all
abbrev pub hull_over : PlainType → List Bound → Bound
hull_over t bs = if is_set t.base then bounds.sets [] (union_of_all (map upper_in bs)) else bounds.number (hull_of_all (map ends_in bs))

-- integers and cases, as indices
abbrev pub all_indices : List Content → Option (List ℤ)
all_indices [] = Some []
all_indices (x ∷ xs) = option_and_then (λ n. option_map (λ ns. n ∷ ns) (all_indices xs)) (as_element x)

abbrev pub indices_in : List (Option Content) → Option (List ℤ)
indices_in vs = option_and_then all_indices (all_there vs)

-- the element at an index, none outside the index sets
abbrev pub element_at : Content → List ℤ → Option Content
element_at (values.array ix xs) is = option_and_then (λ k. slice_get (items_in xs) k) (place_of ix is)
element_at _ is = None

abbrev pub accessed : Option Content → List (Option Content) → Option Content
accessed a vs = option_and_then (λ x. option_and_then (element_at x) (indices_in vs)) a

-- the elements that indices of these bounds reach
abbrev pub elements_reached : Bounds → List Ends → List Bound
elements_reached (bounds.one b) es = []
elements_reached (bounds.many ix bs) es = reached ix es bs

abbrev pub access_cell : Mode → PlainType → Cell → List Cell → Cell
access_cell m t a is =
    if is_par a && all_par is
    then Par (accessed (value_of a) (map value_of is))
    else Var (bounds.one (hull_over t (elements_reached (bounds_in a) (map (λ c. ends_in (scalar_bound (bounds_in c))) is)))) (held m (accessed (value_of a) (map value_of is)))

-- ---- declared sets: none is declared, it is undefined, or it is this set
pub data Want : Type 0 where
  Anything : Want
  Missing : Want
  Within : List Range → Want

abbrev pub want_of : Option (List Range) → Want
want_of None = Missing
want_of (Some s) = Within s

-- an absent option lies in each set that isn't empty; of arrays each element lies in it, and a set is a part of it
abbrev pub item_suits : List Range → Content → Bool
item_suits u (values.int n) = contains u n
item_suits u (values.case e k) = contains u k
item_suits u (values.set of rs) = is_subset rs u
item_suits u values.absent = not (is_empty_set u)
item_suits u _ = true

abbrev pub value_suits : List Range → Content → Bool
value_suits u (values.array ix xs) = list_all (item_suits u) (items_in xs)
value_suits u x = item_suits u x

abbrev pub defined_in : List Range → Option Content → Bool
defined_in u None = false
defined_in u (Some x) = value_suits u x

-- a value is there, and lies in its declared set
abbrev pub suits : Want → Cell → Sure
suits Anything c = record { par = is_par c; is = is_there (value_of c) }
suits Missing c = unsure
suits (Within u) c = record { par = is_par c; is = defined_in u (value_of c) }

-- a declared set is there
abbrev pub has_set : Want → Sure
has_set Anything = record { par = true; is = true }
has_set Missing = unsure
has_set (Within u) = record { par = true; is = true }

-- ---- declared index sets: each is contiguous, none is declared for the index `int`

abbrev pub is_missing : Want → Bool
is_missing Missing = true
is_missing _ = false

abbrev pub own_range : Option Range → Range
own_range None = (pos 1, pos 0)
own_range (Some r) = r

-- the declared range; the value's own for `int`; and none for what is undefined
abbrev pub range_for : Want → Option Range → Range
range_for Anything own = own_range own
range_for Missing own = (pos 1, pos 0)
range_for (Within s) own = index_range s

-- from a place of the value's own ranges on
abbrev pub ranges_from : ℕ → List Want → List Range → List Range
ranges_from k [] own = []
ranges_from k (x ∷ xs) own = range_for x (slice_get own k) ∷ ranges_from (k + 1) xs own

abbrev pub declared_ranges : List Want → List Range → List Range
declared_ranges xs own = ranges_from 0 xs own

abbrev pub own_ranges : Cell → List Range
own_ranges c = unwrap_or (index_of c) []

-- how many elements the array type has, where the value is this
abbrev pub declared_count : List Want → Cell → ℕ
declared_count [] c = 0
declared_count (x ∷ xs) c = place_count (declared_ranges (x ∷ xs) (own_ranges c))

abbrev pub is_own : Want → Bool
is_own Anything = true
is_own _ = false

abbrev pub takes_own : List Want → Bool
takes_own xs = not (list_all (λ x. not (is_own x)) xs)

-- as many elements; an index `int` takes the value's own index set, so then the dimensions are as many
abbrev pub fits_shape : List Want → List Range → ℕ → Bool
fits_shape xs own n = nat_eq (place_count (declared_ranges xs own)) n && (not (takes_own xs) || nat_eq (length xs) (length own))

abbrev pub moved_value : List Range → Content → Content
moved_value ix (values.array jx xs) = values.array ix xs
moved_value ix x = x

abbrev pub moved : List Range → Cell → Cell
moved ix (Par v) = Par (option_map (moved_value ix) v)
moved ix (Var b v) = Var (bounds.many ix (element_bounds b)) (option_map (moved_value ix) v)
moved ix (Unshaped d) = Unshaped d

-- AN ARRAY TAKES ITS DECLARED INDEX SETS, where the number of its elements fits; else IndexMismatch at the value. An undefined par array isn't tested, nor is one whose declared sets are undefined
abbrev pub fitted_to : Span → List Want → List Range → Option ℕ → Cell → Run Cell
fitted_to at xs own None c = give c
fitted_to at xs own (Some n) c =
    if fits_shape xs own n then give (moved (declared_ranges xs own) c) else stop kind.IndexMismatch at (pos 0)

abbrev pub no_missing : List Want → Bool
no_missing xs = list_all (λ x. not (is_missing x)) xs

abbrev pub fitted : Span → List Want → Cell → Run Cell
fitted at [] c = give c
fitted at (x ∷ xs) c = if no_missing (x ∷ xs) then fitted_to at (x ∷ xs) (own_ranges c) (length_of c) c else give c

-- ---- the branches of an `if`

-- a branch's bounds; none of an undefined par array
abbrev pub branch_bounds_of : PlainType → Cell → Option Bounds
branch_bounds_of t c = if no_dims t.dims then Some (bounds_as t c) else option_map (λ _. bounds_in c) (index_of c)

abbrev pub all_bounds : List (Option Bounds) → List Bounds
all_bounds [] = []
all_bounds (None ∷ bs) = all_bounds bs
all_bounds (Some b ∷ bs) = b ∷ all_bounds bs

abbrev pub same_shape : Bounds → Bounds → Bool
same_shape (bounds.many ix bs) (bounds.many jx cs) = same_set ix jx
same_shape (bounds.many ix bs) (bounds.one c) = false
same_shape (bounds.one b) c = true

-- the index sets are those of the first branch that has some; the bounds are the hull of all such branches
abbrev pub branches_cell : Mode → PlainType → Span → List Bounds → Option Content → Run Cell
branches_cell m t at [] v = give (Unshaped (length t.dims))
branches_cell m t at (b ∷ bs) v = if list_all (same_shape b) bs then give (Var (if_bounds b bs) (held m v)) else stop kind.IndexMismatch at (pos 0)

-- THE VALUE IS THAT OF THE CHOSEN BRANCH: the first whose condition is true, and else the last
abbrev pub chosen_value : List (Cell × Cell) → Cell → Option Content
chosen_value [] last = value_of last
chosen_value (p ∷ ps) last = if is_true (value_of p.0) then value_of p.1 else chosen_value ps last

-- the evaluated branches: those under var conditions with these, and the last one
abbrev pub branch_cell : Mode → PlainType → Span → List (Cell × Cell) → Cell → Run Cell
branch_cell m t at ps last =
    if not t.var
    then give last
    else branches_cell m t at (all_bounds (map (branch_bounds_of t) (map (λ p. p.1) ps ++ last ∷ []))) (chosen_value ps last)
