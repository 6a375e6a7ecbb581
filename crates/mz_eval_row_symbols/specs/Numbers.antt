-- ROWS OF TWO NUMBERS OR TRUTH VALUES that nodes, and integers, tell as they stand.
use Rattle.std.specs.Prelude.{◌≡◌, ◌∷◌, [], ℕ, Bool, true, false, Option, Some, None}
use Rattle.mz_value.specs.Contents.{Content}
use Rattle.mz_value.specs.Contents as values
use Rattle.mz_core.specs.declared.types.Base.TheVariants as base
use Rattle.mz_operations.specs.declared.row.Row.TheVariants.{Scalar}
use Rattle.mz_operations.specs.Bounds as bounds
use Rattle.mz_arena.specs.Values.{Term}
use Rattle.mz_meaning.specs.Cells.{Cell, bounds_in, held, is_par, value_of}
use Rattle.mz_symbol.specs.Readings.{Reading}
use Rattle.mz_eval_symbols.specs.Steps.{argued}
use Rattle.mz_eval_row_symbols.specs.declared.types.Operand.{Operand}
use Rattle.mz_eval_row_symbols.specs.declared.types.Operand.TheVariants as operand
use Rattle.mz_eval_row_symbols.specs.declared.types.Number.{Number}
use Rattle.mz_eval_row_symbols.specs.declared.types.NumberRow.{NumberRow}
use Rattle.mz_eval_row_symbols.specs.Ends.{HasEnds}

-- the value of what tells a number, by the terms of nodes
abbrev pub operand_seen : (ℕ → Term) → Operand → Option Content
operand_seen t (operand.Number n) = argued t (record { base = base.Int; occurs = None; term = n })
operand_seen t (operand.Truth n) = argued t (record { base = base.Bool; occurs = None; term = n })
operand_seen t (operand.Integer n) = Some (values.int n)

-- the same under a reading
abbrev pub operand_value : Reading → Operand → Option Content
operand_value r o = held r.mode (operand_seen r.term o)

abbrev pub is_node : Operand → Bool
is_node (operand.Integer n) = false
is_node o = true

-- A VAR CELL IS A NUMBER: it has its bounds and its value
pub record IsNumber (x : Reading → Cell) (n : Number) : Type 0 where
  pub var : (r : Reading) → is_par (x r) ≡ false
  pub bounds : (r : Reading) → bounds_in (x r) ≡ bounds.one (bounds.number n.ends)
  pub value : (r : Reading) → held r.mode (value_of (x r)) ≡ operand_value r n.operand

-- TWO CELLS ARE THOSE OF A ROW: it has the ends of its bounds, and what tells both
pub record AreNumbers (x y : Reading → Cell) (n : NumberRow) : Type 0 where
  pub ends : (r : Reading) → HasEnds (Scalar n.row) (x r ∷ y r ∷ []) n.ends
  pub left : (r : Reading) → held r.mode (value_of (x r)) ≡ operand_value r n.left
  pub right : (r : Reading) → held r.mode (value_of (y r)) ≡ operand_value r n.right
