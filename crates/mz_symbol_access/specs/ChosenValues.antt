-- What the branches of an `if` under a var condition are asked to give.
use Rattle.std.specs.Prelude.{ℕ, List, Option, if◌then◌else◌}
use Rattle.mz_value.specs.Contents.{Content}
use Rattle.mz_arena.specs.Values.{is_true}
use Rattle.mz_symbol.specs.declared.types.Symbol.{Symbol}
use Rattle.mz_symbol.specs.Symbols.{symbol_value}
use Rattle.mz_symbol.specs.Readings.{Reading}

-- the value of the first symbol where a node is true, else of the second
abbrev pub chosen_value : Reading → ℕ → Symbol → Symbol → Option Content
chosen_value r c p q = if is_true (r.term c) then symbol_value r.term p else symbol_value r.term q

-- the elements of the first array where a node is true, else of the second
abbrev pub chosen_line : Reading → ℕ → ℕ → ℕ → Option (List Content)
chosen_line r c p q = if is_true (r.term c) then r.line p else r.line q
