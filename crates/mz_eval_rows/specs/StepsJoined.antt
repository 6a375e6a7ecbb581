-- Mirror of src/joined.rt; private clauses only.
use Rattle.std.specs.Prelude.{ℕ, List, Option}
use Rattle.std.specs.Option.{option_map}
use Rattle.mz_value.specs.Ranges.{Range}
use Rattle.mz_value.specs.Contents.{Content}
use Rattle.mz_core.specs.declared.types.Base.{Base}
use Rattle.mz_core.specs.Types.{PlainType}
use Rattle.mz_operations.specs.Arrays.{line}
use Rattle.mz_operations.specs.Bounds as bounds
use Rattle.mz_meaning.specs.Cells.{Cell, Var, held}
use Rattle.mz_meaning.specs.Coerced.{recast}
use Rattle.mz_symbol.specs.Readings.{Reading}

-- these elements as an array from 1 on
abbrev pub listed : Base → Option (List Content) → Option Content
listed b o = option_map (recast b) (option_map line o)

-- the run's array with this number, at a node of this type
abbrev pub line_as : PlainType → Reading → ℕ → Option Content
line_as t r n = held r.mode (listed t.base (r.line n))

-- its cell
abbrev pub line_cell : List Range → List bounds.Bound → PlainType → Reading → ℕ → Cell
line_cell ix bs t r n = Var (bounds.many ix bs) (line_as t r n)
