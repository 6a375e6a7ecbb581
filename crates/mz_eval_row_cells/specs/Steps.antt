-- Mirror of src/; private clauses only.
use Rattle.std.specs.Prelude.{ℕ, ℤ, pos, List, map, length, Bool, true, not, ◌&&◌, nat_lt, Option, Some, None, unwrap_or, if◌then◌else◌}
use Rattle.std.specs.List.{list_all}
use Rattle.std.specs.Option.{option_and_then, option_map}
use Rattle.mz_base.specs.declared.fault.Span.{Span}
use Rattle.mz_base.specs.declared.kind.Kind.TheVariants as kind
use Rattle.mz_value.specs.Ranges.{Range}
use Rattle.mz_value.specs.Contents.{Content, text}
use Rattle.mz_value.specs.Shown.{Names, names_of, shown}
use Rattle.mz_core.specs.Types.{PlainType}
use Rattle.mz_operations.specs.declared.row.Row.{Row}
use Rattle.mz_operations.specs.Arguments.{Arguments, bool_at}
use Rattle.mz_operations.specs.Arguments as words
use Rattle.mz_operations.specs.Bounds.{Bounds}
use Rattle.mz_interval.specs.Ends.{Ends, is_number}
use Rattle.mz_operations.specs.RowBounds.{row_bounds, value_by_bounds, as_one, as_ends}
use Rattle.mz_meaning.specs.Runs.{Run, give, stop, ◌>>=◌}
use Rattle.mz_meaning.specs.Cells.{Cell, Par, Var, Bare, bounds_in, no_bounds}
use Rattle.mz_meaning.specs.Coerced.{recast}
use Rattle.mz_meaning.specs.Operations.{has_case, is_showable, limited, argument_bounds, known, reads_bounds, var_row, with_shape}
use Rattle.mz_eval_cells.specs.declared.types.Known.{Known}
use Rattle.mz_eval_cells.specs.Views.{cells_of}

-- ---- src/showing.rt

abbrev pub is_case : Names → ℕ → ℤ → Bool
is_case names e k = nat_lt e (length names) && has_case (names_of names e) k

abbrev pub has_ranges : List (List ℕ) → List Range → Bool
has_ranges labels rs = list_all (λ r. has_case labels r.0 && has_case labels r.1) rs

abbrev pub shown_if : Names → Content → Option Content
shown_if names x = if is_showable names x then Some (text (shown names x)) else None

abbrev pub shown_of : Names → Arguments → Option Content
shown_of names args = option_and_then (shown_if names) (words.at args 0)

-- ---- src/faults.rt

abbrev pub all_known : List Known → Arguments
all_known ks = map known (cells_of ks)

-- the test of an `assert`
abbrev pub asserted : Span → Arguments → Run (Unit {0})
asserted at vs = if not (unwrap_or (bool_at vs 0) true) then stop kind.AssertFailed at (pos 0) else give tt

-- ---- src/limits.rt, src/opened.rt

abbrev pub var_of : Span → Bounds → Run Cell
var_of at b = limited at b >>= λ c. give (Var c None)

abbrev pub bounds_or : PlainType → Option Bounds → Bounds
bounds_or t b = unwrap_or b (no_bounds t)

abbrev pub opened : Row → PlainType → Span → List Cell → Run Cell
opened r t at cs = var_of at (bounds_or t (row_bounds r (argument_bounds r cs)))

abbrev pub ends_of : Bounds → Option Ends
ends_of b = option_and_then as_ends (as_one b)

abbrev pub bounded : Row → PlainType → Span → List Cell → Run Cell
bounded r t at cs = limited at (bounds_or t (row_bounds r (argument_bounds r cs))) >>= λ c. give (with_shape r cs (Var c None))

-- a row with a var argument
abbrev pub open_row : Names → Row → PlainType → Span → List Cell → Run Cell
open_row names r t at cs =
    if reads_bounds r then give (Par (option_map (recast t.base) (value_by_bounds r (map bounds_in cs)))) else var_row Bare names r t at cs

-- the end that leaves the limit
abbrev pub first_outside : Ends → ℤ
first_outside e = if is_number e.0 then e.1 else e.0
