-- Mirror of src/handed.rt and src/reshaped.rt; private clauses only.
use Rattle.std.specs.Prelude.{◌≡◌, ℕ, List, length, Option, Some, None}
use Rattle.std.specs.Option.{option_map}
use Rattle.mz_value.specs.Ranges.{Range}
use Rattle.mz_value.specs.Contents.{Content}
use Rattle.mz_core.specs.declared.types.Base.{Base}
use Rattle.mz_operations.specs.declared.row.MadeRow.TheVariants as made
use Rattle.mz_operations.specs.Arguments.{Arguments, at, set_at}
use Rattle.mz_operations.specs.Bounds as bounds
use Rattle.mz_operations.specs.Values.{made_value}
use Rattle.mz_meaning.specs.Cells.{Cell, Var, held}
use Rattle.mz_meaning.specs.Coerced.{recast}
use Rattle.mz_symbol.specs.Readings.{Reading}
use Rattle.mz_eval_cells.specs.declared.types.Known.{Known}
use Rattle.mz_eval_cells.specs.declared.types.VarItems.{VarItems}
use Rattle.mz_eval_cells.specs.Views.{row_content, seen}
use Rattle.mz_eval_row_symbols.specs.NodeRows.{with_value}

-- elements that are there are so many
abbrev pub HasCount : Option (List Content) → ℕ → Type 0
HasCount None n = Unit {0}
HasCount (Some ys) n = length ys ≡ n

-- the sets among arguments are sets among others too
abbrev pub KeepsSets : Arguments → Arguments → Type 0
KeepsSets vs ws = (k : ℕ) (s : List Range) → set_at vs k ≡ Some s → set_at ws k ≡ Some s

-- a var array under the index sets among these arguments: the cell of the row over all arguments
abbrev pub ReshapedAt : Reading → ℕ → Arguments → List Range → List bounds.Bound → VarItems → Known → Type 0
ReshapedAt r d vs ix bs xs k = (jx : List Range) (ws : Arguments) (b : Base) → KeepsSets vs ws → at ws d ≡ held r.mode (row_content r.line jx xs) → Var (bounds.many ix bs) (held r.mode (option_map (recast b) (made_value (made.Shaped d) ws))) ≡ seen r k

abbrev pub IsReshaped : Reading → ℕ → Arguments → Cell → VarItems → Known → Type 0
IsReshaped r d vs c xs k = (jx : List Range) (ws : Arguments) (b : Base) → KeepsSets vs ws → at ws d ≡ held r.mode (row_content r.line jx xs) → with_value (held r.mode (option_map (recast b) (made_value (made.Shaped d) ws))) c ≡ seen r k
