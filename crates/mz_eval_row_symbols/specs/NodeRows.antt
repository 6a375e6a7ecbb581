-- WHAT THE NODE OF A ROW IS: the row's cell, once the node's type is stamped on it.
use Rattle.std.specs.Prelude.{Bool, true, false, List, map, Option}
use Rattle.std.specs.Option.{option_map}
use Rattle.mz_base.specs.declared.fault.Span.{Span}
use Rattle.mz_value.specs.Contents.{Content}
use Rattle.mz_value.specs.Shown.{Names}
use Rattle.mz_core.specs.Types.{PlainType}
use Rattle.mz_operations.specs.declared.row.Row.{Row}
use Rattle.mz_meaning.specs.Runs.{Run, ◌>>=◌, give}
use Rattle.mz_meaning.specs.Cells as cells
use Rattle.mz_meaning.specs.Cells.{Cell, Par, Var, Unshaped, Mode, held, value_of, typed}
use Rattle.mz_meaning.specs.Coerced.{recast}
use Rattle.mz_meaning.specs.Exact.{exact_value}
use Rattle.mz_meaning.specs.Operations.{row_cell}
use Rattle.mz_symbol.specs.Readings.{Reading}
use Rattle.mz_symbol.specs.Arguments.{truth_of}
use Rattle.mz_eval_cells.specs.declared.types.Known.{Known}
use Rattle.mz_eval_cells.specs.declared.types.Known.TheVariants as known
use Rattle.mz_eval_cells.specs.Views.{cell_of, seen}

-- a cell under a reading, as that of a node of this type
abbrev pub stamped : PlainType → Reading → Known → Cell
stamped t r k = typed r.mode false t (seen r k)

-- A ROW OVER CELLS AT A NODE OF THIS TYPE, and the type. A Boolean is false here where the row's value is undefined
abbrev pub row_node : Mode → Names → Row → PlainType → Span → List Cell → Run Cell
row_node m names row t at cs = row_cell m names row t at cs >>= λ c. give (typed m false t c)

-- ---- the value of a row with a var argument

-- a var cell with this value; other cells have none
abbrev pub with_value : Option Content → Cell → Cell
with_value v (Par w) = Par w
with_value v (Var b w) = Var b v
with_value v (Unshaped d) = Unshaped d

-- what a value counts as at a node of this type: a Boolean is false in place of undefined
abbrev pub told_by : Bool → Option Content → Option Content
told_by true v = truth_of v
told_by false v = v

abbrev pub told : PlainType → Option Content → Option Content
told t v = told_by (cells.is_truth t) v

abbrev pub exact_row : Names → Row → PlainType → List (Option Content) → Option Content
exact_row names row t vs = option_map (recast t.base) (exact_value names row vs)

-- THE VALUE OF A ROW AT A NODE OF THIS TYPE, from the values of its arguments under a reading
abbrev pub row_told : Reading → Names → Row → PlainType → List (Option Content) → Option Content
row_told r names row t vs = held r.mode (told t (exact_row names row t vs))

-- the same over cells, before the type is stamped on it
abbrev pub var_value : Mode → Names → Row → PlainType → List Cell → Option Content
var_value m names row t cs = held m (exact_row names row t (map value_of cs))

-- what has a var value
abbrev pub is_open : Known → Bool
is_open (known.Var x) = true
is_open (known.Row ix xs) = true
is_open k = false

-- what a cell without values stands for under a reading, where a row over these cells gave it
abbrev pub shape_seen : Reading → Names → Row → PlainType → List Cell → Known → Cell
shape_seen r names row t cs k = with_value (var_value r.mode names row t cs) (cell_of k)

-- the same once the node's type is stamped on it
abbrev pub shape_stamped : Reading → Names → Row → PlainType → List Cell → Known → Cell
shape_stamped r names row t cs k = typed r.mode false t (shape_seen r names row t cs k)
