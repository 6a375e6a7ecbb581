-- What is known of a call's arguments before solving, and the tests that read it.
use Rattle.std.specs.Prelude.{ℕ, ℤ, pos, nat_abs, int_lt, nat_eq, List, [], ◌∷◌, ◌++◌, map, zip, take, drop, length, Bool, true, false, not, ◌&&◌, ◌||◌, Option, Some, None, slice_index_or, if◌then◌else◌}
use Rattle.std.specs.Option.{option_or, option_map}
use Rattle.std.specs.Ordering.{int_eq}
use Rattle.mz_value.specs.Ranges.{Range}
use Rattle.mz_value.specs.Contents.{Content}
use Rattle.mz_interval.specs.Ends.{Ends, is_number}
use Rattle.mz_interval.specs.Rows.{sum_of}
use Rattle.mz_operations.specs.declared.row.Fold.TheVariants.{Sum}
use Rattle.mz_operations.specs.Bounds.{Bound, number, sets, Bounds, one, many, bounds_of, folded_ends}
use Rattle.mz_globals.specs.declared.checks.Places.{Places}
use Rattle.mz_globals.specs.declared.checks.Fit.{Fit}
use Rattle.mz_globals.specs.declared.checks.Fit.TheVariants.{Free, Alike, Columns, Automaton}
use Rattle.mz_globals.specs.declared.checks.Sums.{Sums}
use Rattle.mz_globals.specs.declared.checks.Sums.TheVariants.{Nothing, Both, Whole, Windows}
use Rattle.mz_globals.specs.Lists.{windows}
use Rattle.mz_globals.specs.Reading.{length_of}

-- Of an argument: an array's index ranges, and the bounds of its elements or of the number. Of a set there is nothing to know, nor of an undefined par argument or of an array without a shape
pub record Given : Type 0 where
  pub index : List Range
  pub ends : List Ends

abbrev pub Givens : Type 0
Givens = List Given

abbrev pub unknown : Given
unknown = record { index = []; ends = [] }

abbrev pub ends_in : Bound → List Ends
ends_in (number e) = e ∷ []
ends_in (sets l u) = []

abbrev pub ends_in_all : List Bound → List Ends
ends_in_all [] = []
ends_in_all (b ∷ bs) = ends_in b ++ ends_in_all bs

-- by the bounds of a var argument
abbrev pub given_by : Bounds → Given
given_by (one b) = record { index = []; ends = ends_in b }
given_by (many ix bs) = record { index = ix; ends = ends_in_all bs }

-- by the value of a par argument
abbrev pub given_of : Option Content → Given
given_of None = unknown
given_of (Some x) = given_by (bounds_of x)

abbrev pub given_at : Givens → ℕ → Given
given_at gs k = slice_index_or gs k unknown

abbrev pub givens_at : Places → Givens → Givens
givens_at p gs = take p.count (drop p.first gs)

-- ---- 1: arrays that don't fit each other. What isn't known fits everything

abbrev pub differ : Option ℕ → Option ℕ → Bool
differ (Some m) (Some n) = not (nat_eq m n)
differ _ _ = false

-- the length of an array of one dimension
abbrev pub only_length : List Range → Option ℕ
only_length (r ∷ []) = Some (length_of r)
only_length _ = None

abbrev pub row_count : List Range → Option ℕ
row_count (r ∷ s ∷ []) = Some (length_of r)
row_count _ = None

abbrev pub column_count : List Range → Option ℕ
column_count (r ∷ s ∷ []) = Some (length_of s)
column_count _ = None

-- not all of one length; `found` is the length of one before
abbrev pub unlike : Option ℕ → Givens → Bool
unlike found [] = false
unlike found (g ∷ gs) = differ found (only_length g.index) || unlike (option_or found (only_length g.index)) gs

abbrev pub number_in : List Ends → Option ℤ
number_in [] = None
number_in (e ∷ es) = Some e.0

-- the number of a par argument
abbrev pub number_at : Givens → ℕ → Option ℤ
number_at gs k = number_in (given_at gs k).ends

-- a number that isn't so many
abbrev pub miscounts : Option ℤ → Option ℕ → Bool
miscounts (Some n) (Some count) = not (int_eq n (pos count))
miscounts _ _ = false

abbrev pub is_misfit : Fit → Givens → Bool
is_misfit Free gs = false
is_misfit (Alike p) gs = unlike None (givens_at p gs)
is_misfit Columns gs = differ (only_length (given_at gs 0).index) (column_count (given_at gs 1).index)
is_misfit Automaton gs = miscounts (number_at gs 1) (row_count (given_at gs 3).index) || miscounts (number_at gs 2) (column_count (given_at gs 3).index)

-- ---- 2: the first lower bound that is negative

abbrev pub negative_in : List Ends → Option ℤ
negative_in [] = None
negative_in (e ∷ es) = if int_lt e.0 (pos 0) then Some e.0 else negative_in es

abbrev pub first_negative : Givens → Option ℤ
first_negative [] = None
first_negative (g ∷ gs) = option_or (negative_in g.ends) (first_negative gs)

-- ---- 3: the first sum of which a bound leaves the limit, with this bound, the lower one first

abbrev pub outside : Ends → Option ℤ
outside e = if is_number e.0 then (if is_number e.1 then None else Some e.1) else Some e.0

abbrev pub first_outside : List Ends → Option ℤ
first_outside [] = None
first_outside (e ∷ es) = option_or (outside e) (first_outside es)

-- added from the left; bounds that have left the limit stay
abbrev pub whole : List Ends → Ends
whole es = folded_ends Sum (pos 0, pos 0) es

-- of each two that stand at one place
abbrev pub sums_of : List Ends → List Ends → List Ends
sums_of es fs = map (λ p. sum_of p.0 p.1) (zip es fs)

abbrev pub window_sums : Option ℤ → List Ends → List Ends
window_sums None es = []
window_sums (Some n) es = map whole (windows (nat_abs n) es)

abbrev pub sums_in : Sums → Givens → List Ends
sums_in Nothing gs = []
sums_in (Both j k) gs = sums_of (given_at gs j).ends (given_at gs k).ends
sums_in (Whole k) gs = whole (given_at gs k).ends ∷ []
sums_in (Windows j k) gs = window_sums (number_at gs j) (given_at gs k).ends
