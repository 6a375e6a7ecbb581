-- Operators and built-ins over cells.
use Rattle.std.specs.Prelude.{ℕ, ℤ, pos, Bool, true, false, ◌&&◌, List, [], ◌∷◌, map, take, drop, ◌++◌, length, slice_get, Option, Some, None, if◌then◌else◌, unwrap_or, int_le, nat_lt}
use Rattle.std.specs.Option.{option_map}
use Rattle.std.specs.List.{list_all, list_any}
use Rattle.mz_base.specs.declared.fault.Span.{Span}
use Rattle.mz_base.specs.declared.kind.Kind.TheVariants as kind
use Rattle.mz_value.specs.Ranges.{Range, cardinality}
use Rattle.mz_value.specs.Contents.{Content, Contents, contents}
use Rattle.mz_value.specs.Contents as values
use Rattle.mz_value.specs.Shown.{Names, names_of}
use Rattle.mz_interval.specs.Ends.{is_number}
use Rattle.mz_core.specs.declared.types.Base.{Base}
use Rattle.mz_core.specs.Types.{PlainType, is_set}
use Rattle.mz_operations.specs.declared.row.ScalarRow.TheVariants.{Equal, Unequal, SetEqual, SetUnequal, Length}
use Rattle.mz_operations.specs.declared.row.MadeRow.TheVariants.{IndexSet, Line, Shaped, AssertArray}
use Rattle.mz_operations.specs.declared.row.Row.{Row}
use Rattle.mz_operations.specs.declared.row.Row.TheVariants.{Scalar, Made, Bounding, Show, ShowArray}
use Rattle.mz_operations.specs.Lines.{row_of}
use Rattle.mz_operations.specs.Answers.{Answer, Gives, Stops, is_mismatched, negative, is_failed, answer}
use Rattle.mz_operations.specs.Costs.{cost}
use Rattle.mz_operations.specs.Bounds.{Bounds, no_set}
use Rattle.mz_operations.specs.Bounds as bounds
use Rattle.mz_operations.specs.RowBounds.{row_bounds, value_by_bounds}
use Rattle.mz_meaning.specs.Runs.{Run, give, stop, ◌>>=◌, ◌>>◌}
use Rattle.mz_meaning.specs.Cells.{Cell, Par, Var, Unshaped, Mode, held, all_par, value_of, bounds_in, no_bounds, length_of}
use Rattle.mz_meaning.specs.Coerced.{recast}
use Rattle.mz_meaning.specs.Exact.{exact_value}

-- ---- the rows by the numbers that the typed tree has for them: their places in the table

abbrev pub of_sets : Row → Row
of_sets (Scalar Equal) = Scalar SetEqual
of_sets (Scalar Unequal) = Scalar SetUnequal
of_sets r = r

-- the row of a number whose arguments are of this base; a global is none of them
abbrev pub row_at : ℕ → Base → Option Row
row_at n b = option_map (λ r. if is_set b then of_sets r else r) (row_of n)

-- ---- what a row costs

-- the elements of an array or of a par set, and a par integer that isn't negative
abbrev pub content_size : Content → ℕ
content_size (values.set of rs) = cardinality rs
content_size (values.int (pos n)) = n
content_size _ = 0

abbrev pub value_size : Option Content → ℕ
value_size None = 0
value_size (Some x) = content_size x

abbrev pub own_size : Cell → ℕ
own_size (Par v) = value_size v
own_size (Var b v) = 0
own_size (Unshaped d) = 0

abbrev pub size_of : Cell → ℕ
size_of c = unwrap_or (length_of c) (own_size c)

abbrev pub row_cost : Row → List Cell → ℕ
row_cost r cs = cost r (map size_of cs)

-- ---- `show` is asked only for enums and cases that are there

abbrev pub has_case : List (List ℕ) → ℤ → Bool
has_case labels k = int_le (pos 1) k && int_le k (pos (length labels))

abbrev pub has_cases : Names → Option ℕ → List Range → Bool
has_cases names None rs = true
has_cases names (Some e) rs = nat_lt e (length names) && list_all (λ r. has_case (names_of names e) r.0 && has_case (names_of names e) r.1) rs

unfoldable mutual
  pub is_showable : Names → Content → Bool
  is_showable names (values.case e k) = nat_lt e (length names) && has_case (names_of names e) k
  is_showable names (values.set of rs) = has_cases names of rs
  is_showable names (values.array ix xs) = are_showable names xs
  is_showable names _ = true

  pub are_showable : Names → Contents → Bool
  are_showable names values.none = true
  are_showable names (values.more x xs) = is_showable names x && are_showable names xs

abbrev pub all_showable : Names → List (Option Content) → Bool
all_showable names [] = true
all_showable names (None ∷ vs) = true
all_showable names (Some x ∷ vs) = is_showable names x

abbrev pub known_names : Names → Row → List (Option Content) → Bool
known_names names Show vs = all_showable names vs
known_names names ShowArray vs = all_showable names vs
known_names names r vs = true

-- ---- a row with par arguments: the lines on values

abbrev pub par_answer : Base → Span → Answer → Run Cell
par_answer b at (Gives v) = give (Par (option_map (recast b) v))
par_answer b at (Stops k n) = stop k at n

abbrev pub par_row : Names → Row → Base → Span → List (Option Content) → Run Cell
par_row names r b at vs = par_answer b at (if known_names names r vs then answer names r vs else Gives None)

-- ---- a row that has a par value of a var argument: it reads the bounds alone, so that the argument counts as defined

abbrev pub reads_bounds : Row → Bool
reads_bounds (Bounding r) = true
reads_bounds (Scalar Length) = true
reads_bounds (Made (IndexSet k d)) = true
reads_bounds r = false

-- ---- a row with a var argument, and a var value: the faults and the bounds go by bounds and par values alone

-- what is known of an argument without its var value: a par value, and of a var array that it has this many elements
abbrev pub known_in : Bounds → Option Content
known_in (bounds.one b) = None
known_in (bounds.many ix bs) = Some (values.array ix (contents (map (λ _. values.absent) bs)))

abbrev pub known : Cell → Option Content
known (Par v) = v
known (Var b v) = known_in b
known (Unshaped d) = None

abbrev pub unless_negative : Option ℤ → Span → Run (Unit {0}) → Run (Unit {0})
unless_negative None at go = go
unless_negative (Some n) at go = stop kind.NegativeArgument at n

-- the faults of a row, in their order
abbrev pub tested : Row → Span → List (Option Content) → Run (Unit {0})
tested r at vs =
    if is_mismatched r vs
    then stop kind.IndexMismatch at (pos 0)
    else unless_negative (negative r vs) at (if is_failed r vs then stop kind.AssertFailed at (pos 0) else give tt)

-- a number's bounds lie in the limit: of ends outside, the lower is named first
abbrev pub limited : Span → Bounds → Run Bounds
limited at (bounds.one (bounds.number e)) =
    if is_number e.0 then (if is_number e.1 then give (bounds.one (bounds.number e)) else stop kind.Bounds at e.1) else stop kind.Bounds at e.0
limited at (bounds.one (bounds.sets l u)) = give (bounds.one (bounds.sets l u))
limited at (bounds.many ix bs) = give (bounds.many ix bs)

-- the index sets of `array1d` to `array6d` are sets, also where they are undefined
abbrev pub index_set_bounds : Cell → Bounds
index_set_bounds (Par None) = no_set
index_set_bounds c = bounds_in c

abbrev pub argument_bounds : Row → List Cell → List Bounds
argument_bounds (Made (Shaped d)) cs = map index_set_bounds (take d cs) ++ map bounds_in (drop d cs)
argument_bounds r cs = map bounds_in cs

abbrev pub at_place : ℕ → List Cell → Cell
at_place k cs = unwrap_or (slice_get cs k) (Par None)

-- an array without a shape that is handed on by `assert` stays without one
abbrev pub or_unshaped : Cell → Cell → Cell
or_unshaped (Unshaped d) c = Unshaped d
or_unshaped _ c = c

-- and so it does under other index sets, with this number of dimensions
abbrev pub or_reshaped : ℕ → Cell → Cell → Cell
or_reshaped n (Unshaped d) c = Unshaped n
or_reshaped n _ c = c

-- an index set that is undefined; none is var
abbrev pub is_no_set : Cell → Bool
is_no_set (Par None) = true
is_no_set _ = false

-- nor has an array a shape where one of its index sets is undefined
abbrev pub shaped_by : ℕ → List Cell → Cell → Cell → Cell
shaped_by n ixs a c = if list_any is_no_set ixs then Unshaped n else or_reshaped n a c

abbrev pub with_shape : Row → List Cell → Cell → Cell
with_shape (Made (Shaped d)) cs c = shaped_by d (take d cs) (at_place d cs) c
with_shape (Made Line) cs c = or_reshaped 1 (at_place 0 cs) c
with_shape (Made AssertArray) cs c = or_unshaped (at_place 2 cs) c
with_shape r cs c = c

abbrev pub var_row : Mode → Names → Row → PlainType → Span → List Cell → Run Cell
var_row m names r t at cs = do
  tested r at (map known cs)
  b ← limited at (unwrap_or (row_bounds r (argument_bounds r cs)) (no_bounds t))
  give (with_shape r cs (Var b (held m (option_map (recast t.base) (exact_value names r (map value_of cs))))))

-- A ROW OVER CELLS, at a node of this type
abbrev pub row_cell : Mode → Names → Row → PlainType → Span → List Cell → Run Cell
row_cell m names r t at cs =
    if all_par cs
    then par_row names r t.base at (map value_of cs)
    else (if reads_bounds r then give (Par (option_map (recast t.base) (value_by_bounds r (map bounds_in cs)))) else var_row m names r t at cs)
