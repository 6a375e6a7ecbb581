-- Rows of two numbers.
use Rattle.std.proofs.Common.{◌≡◌, ◌&&◌, ◌∷◌, [], true, ap}
use Rattle.mz_interval.specs.Ends.{Ends}
use Rattle.mz_operations.specs.declared.row.ScalarRow.{ScalarRow}
use Rattle.mz_meaning.specs.Cells.{Cell, bounds_in, is_par}
use Rattle.mz_symbol.specs.Readings.{Reading}
use Rattle.mz_eval_row_symbols.specs.declared.types.Number.{Number}
use Rattle.mz_eval_row_symbols.specs.Ends.{HaveEnds}
use Rattle.mz_eval_row_symbols.specs.Numbers.{AreNumbers, IsNumber}

pub are_numbers : (x y : Reading → Cell) (w : ScalarRow) (a b : Number) (e : Ends) → HaveEnds w a.ends b.ends e → IsNumber x a → IsNumber y b → AreNumbers x y (record { row = w; left = a.operand; right = b.operand; ends = e })
are_numbers x y w a b e h i j = record {
  ends = λ r. record { var = ap (λ p. p && (is_par (y r) && true)) (i.var r); ends = h (bounds_in (x r)) (bounds_in (y r)) (i.bounds r) (j.bounds r) };
  left = i.value;
  right = j.value;
}
