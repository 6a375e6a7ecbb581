-- What an array of symbols is asked to give.
use Rattle.std.specs.Prelude.{ℕ, List, map, Option}
use Rattle.mz_value.specs.Contents.{Content}
use Rattle.mz_arena.specs.Values.{Term}
use Rattle.mz_symbol.specs.declared.types.Symbol.{Symbol}
use Rattle.mz_symbol.specs.Symbols.{all_there, symbol_value}
use Rattle.mz_symbol.specs.Arguments.{as_argument}

-- a symbol's value as an argument
abbrev pub argued : (ℕ → Term) → Symbol → Option Content
argued t s = as_argument s.base s.occurs (symbol_value t s)

-- THE ELEMENTS OF AN ARRAY, where each is there
abbrev pub all_argued : (ℕ → Term) → List Symbol → Option (List Content)
all_argued t ss = all_there (map (argued t) ss)
