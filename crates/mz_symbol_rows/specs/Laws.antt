-- What holds of the arguments of rows.
use Rattle.std.specs.Prelude.{◌≡◌, Some}
use Rattle.mz_value.specs.Contents.{Content}
use Rattle.mz_symbol.specs.declared.types.Symbol.{Symbol}
use Rattle.mz_symbol.specs.Symbols.{symbol_value}
use Rattle.mz_symbol.specs.Readings.{Reading, symbol_seen}
use Rattle.mz_symbol_rows.specs.RowValues.{argument}

-- A SYMBOL THAT HAS A VALUE IS AN ARGUMENT AS IT STANDS
abbrev pub ArgumentsAreValues : Type 0
ArgumentsAreValues = (r : Reading) (s : Symbol) (x : Content) → symbol_value r.term s ≡ Some x → argument r s ≡ symbol_seen r s
