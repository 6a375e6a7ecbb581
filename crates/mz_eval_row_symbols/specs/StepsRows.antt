-- Mirror of src/singles.rt, src/lines.rt, src/sets.rt and src/stated.rt; private clauses only.
use Rattle.std.specs.Prelude.{◌≡◌, Bool, true, false, Option}
use Rattle.std.specs.Option.{option_map}
use Rattle.mz_value.specs.Contents.{Content}
use Rattle.mz_core.specs.declared.types.Base.{Base}
use Rattle.mz_core.specs.declared.types.Base.TheVariants as base
use Rattle.mz_core.specs.Types.{PlainType}
use Rattle.mz_operations.specs.declared.row.ScalarRow.{ScalarRow}
use Rattle.mz_operations.specs.declared.row.ScalarRow.TheVariants as scalar
use Rattle.mz_operations.specs.declared.row.MadeRow.{MadeRow}
use Rattle.mz_operations.specs.declared.row.MadeRow.TheVariants as made
use Rattle.mz_meaning.specs.Cells.{held}
use Rattle.mz_meaning.specs.Coerced.{recast}
use Rattle.mz_symbol.specs.declared.types.Symbol.{Symbol}
use Rattle.mz_symbol.specs.Readings.{Reading, symbol_seen}
use Rattle.mz_symbol_rows.specs.RowValues.{argument}
use Rattle.mz_eval_row_symbols.specs.NodeRows.{told, told_by}

-- rows that give truth values: over symbols they are false in place of undefined
abbrev pub gives_truth : ScalarRow → Bool
gives_truth (scalar.Logic op) = true
gives_truth scalar.Not = true
gives_truth (scalar.Order op) = true
gives_truth scalar.Equal = true
gives_truth scalar.Unequal = true
gives_truth scalar.SetEqual = true
gives_truth scalar.SetUnequal = true
gives_truth scalar.In = true
gives_truth (scalar.Quantified op) = true
gives_truth scalar.Clause = true
gives_truth scalar.Occurs = true
gives_truth scalar.Absent = true
gives_truth w = false

-- rows that go through the elements of one array
abbrev pub takes_array : ScalarRow → Bool
takes_array (scalar.Fold op) = true
takes_array (scalar.Quantified op) = true
takes_array scalar.Count = true
takes_array (scalar.Extreme side) = true
takes_array w = false

-- rows that go through the sets of one array
abbrev pub takes_sets : MadeRow → Bool
takes_sets made.ArrayUnion = true
takes_sets made.ArrayIntersect = true
takes_sets w = false

abbrev pub made_truth : MadeRow → Bool
made_truth made.Subset = true
made_truth made.Superset = true
made_truth w = false

-- numbers, cases and sets
abbrev pub is_own_base : Base → Bool
is_own_base base.Int = true
is_own_base (base.Enum e) = true
is_own_base base.SetInt = true
is_own_base (base.SetEnum e) = true
is_own_base b = false

-- a symbol's base is that of a type, and no truth value's
pub record IsOwn (b c : Base) : Type 0 where
  pub same : b ≡ c
  pub own : is_own_base c ≡ true

-- a type has no base of its own, and a symbol's base is no truth value's
pub record IsFree (b c : Base) : Type 0 where
  pub free : b ≡ base.Bottom
  pub own : is_own_base c ≡ true

-- WHAT A ROW TELLS OF ITS SYMBOL, a truth value or not, is its argument's value at a node of this type
abbrev pub IsTold : Bool → PlainType → Symbol → Type 0
IsTold truth t s = (r : Reading) (v : Option Content) → (truth ≡ true → option_map (recast base.Bool) v ≡ v) → symbol_seen r s ≡ held r.mode (told_by truth v) → argument r s ≡ held r.mode (told t (option_map (recast t.base) v))

-- sets, which are no options
abbrev pub is_set_sort : Base → Bool
is_set_sort base.SetInt = true
is_set_sort (base.SetEnum e) = true
is_set_sort b = false

-- WHAT A ROW OF SETS TELLS OF ITS SYMBOL is its argument's value at a node of this type, where the set is recast
abbrev pub IsSetTold : PlainType → Symbol → Symbol → Type 0
IsSetTold t s x = (r : Reading) (v : Option Content) → symbol_seen r s ≡ held r.mode v → argument r x ≡ held r.mode (told t (option_map (recast t.base) v))

-- a symbol's argument is what it is at a node of this type
abbrev pub IsAt : PlainType → Symbol → Type 0
IsAt t s = (r : Reading) → argument r s ≡ held r.mode (told t (option_map (recast t.base) (argument r s)))
