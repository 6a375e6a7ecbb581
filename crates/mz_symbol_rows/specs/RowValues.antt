-- What a row over symbols is asked to give.
use Rattle.std.specs.Prelude.{true, false, Bool, List, map, Option}
use Rattle.mz_value.specs.Contents.{Content}
use Rattle.mz_core.specs.declared.types.Base.{Base}
use Rattle.mz_core.specs.declared.types.Base.TheVariants as base
use Rattle.mz_operations.specs.declared.row.ScalarRow.{ScalarRow}
use Rattle.mz_operations.specs.Values.{scalar_value}
use Rattle.mz_meaning.specs.Cells.{held}
use Rattle.mz_symbol.specs.declared.types.Symbol.{Symbol}
use Rattle.mz_symbol.specs.Symbols.{symbol_value}
use Rattle.mz_symbol.specs.Arguments.{as_argument}
use Rattle.mz_symbol.specs.Readings.{Reading}

-- THE ARGUMENT OF A ROW: a symbol's value, where a Boolean that is no option is false in place of undefined
abbrev pub argument : Reading → Symbol → Option Content
argument r s = held r.mode (as_argument s.base s.occurs (symbol_value r.term s))

-- a row over symbols
abbrev pub row_value : Reading → ScalarRow → List Symbol → Option Content
row_value r w ss = scalar_value w (map (argument r) ss)

-- truth values, integers and the cases of an enum
abbrev pub is_single : Base → Bool
is_single base.Bool = true
is_single base.Int = true
is_single (base.Enum e) = true
is_single b = false
