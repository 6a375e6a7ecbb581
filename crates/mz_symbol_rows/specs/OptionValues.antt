-- What rows and forms over optional symbols are asked to give.
use Rattle.std.specs.Prelude.{◌≡◌, ℕ, List, map, Option, None, IsSome, if◌then◌else◌}
use Rattle.std.specs.Option.{option_map, option_and_then}
use Rattle.mz_value.specs.Contents.{Content}
use Rattle.mz_value.specs.Contents as values
use Rattle.mz_operations.specs.declared.row.MadeRow.{MadeRow}
use Rattle.mz_operations.specs.declared.row.Fold.TheVariants.{SumOfOptions}
use Rattle.mz_operations.specs.Arrays.{summand}
use Rattle.mz_operations.specs.Values.{made_value}
use Rattle.mz_arena.specs.Values.{is_true}
use Rattle.mz_symbol.specs.declared.types.Symbol.{Symbol}
use Rattle.mz_symbol.specs.Symbols.{value_by, symbol_value}
use Rattle.mz_symbol.specs.Runs.{Run}
use Rattle.mz_symbol.specs.Readings.{Reading, Reads}
use Rattle.mz_symbol_rows.specs.RowValues.{argument}

-- a row over symbols that gives a value of any kind
abbrev pub made_row_value : Reading → MadeRow → List Symbol → Option Content
made_row_value r w ss = made_value w (map (argument r) ss)

-- a symbol's value where a Boolean node is true, else undefined
abbrev pub guarded_value : Reading → ℕ → Symbol → Option Content
guarded_value r d s = if is_true (r.term d) then symbol_value r.term s else None

-- what an element of a sum of options counts as
abbrev pub counted_as : Option Content → Option Content
counted_as v = option_and_then (λ x. option_map (λ n. values.int n) (summand SumOfOptions x)) v

-- A SYMBOL STANDS FOR ANOTHER, with a node of its own for the value: this is the other's, where that has one
pub record IsWholeOf (s : Run) (a x : Symbol) : Type 0 where
  pub base : x.base ≡ a.base
  pub occurs : x.occurs ≡ a.occurs
  pub value : (r : Reading) → Reads r s → IsSome (value_by a.base (r.term a.term)) → value_by a.base (r.term x.term) ≡ value_by a.base (r.term a.term)
