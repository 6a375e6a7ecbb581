-- ROWS OF TWO ARGUMENTS WHOSE BOUNDS ARE THOSE OF A NUMBER, told by the bounds of the arguments.
use Rattle.std.specs.Prelude.{◌≡◌, ◌&&◌, ◌+◌, ◌^◌, ◌∷◌, [], refl, Bool, true, false, List, map, None, Some, negsuc, pos}
use Rattle.mz_interval.specs.Ends.{Ends, is_number}
use Rattle.mz_value.specs.Contents.{int}
use Rattle.mz_operations.specs.declared.row.Arith.TheVariants as arith
use Rattle.mz_operations.specs.declared.row.Row.{Row}
use Rattle.mz_operations.specs.declared.row.Row.TheVariants.{Scalar}
use Rattle.mz_operations.specs.declared.row.ScalarRow.{ScalarRow}
use Rattle.mz_operations.specs.declared.row.ScalarRow.TheVariants as scalar
use Rattle.mz_operations.specs.Bounds.{Bounds, arith_ends, bound_of, bounds_of, number, one}
use Rattle.mz_operations.specs.RowBounds.{bounds_at, ends_at, row_bounds, scalar_bounds}
use Rattle.mz_meaning.specs.Cells.{Cell, Par, Var, all_par, bounds_in}

-- arithmetic, connectives and comparisons have no fault of their own
abbrev pub is_simple : Row → Bool
is_simple (Scalar (scalar.Arith op)) = true
is_simple (Scalar (scalar.Logic op)) = true
is_simple (Scalar (scalar.Order op)) = true
is_simple (Scalar scalar.Equal) = true
is_simple (Scalar scalar.Unequal) = true
is_simple row = false

-- the bounds of such a row over arguments with these bounds: ends in the limit
pub record AreEnds (row : Row) (bs : List Bounds) (e : Ends) : Type 0 where
  pub simple : is_simple row ≡ true
  pub bounds : row_bounds row bs ≡ Some (one (number e))
  pub inside : (is_number e.0 && is_number e.1) ≡ true

-- the same of two numbers with these ends
abbrev pub HaveEnds : ScalarRow → Ends → Ends → Ends → Type 0
HaveEnds w e f g = (b c : Bounds) → b ≡ one (number e) → c ≡ one (number f) → AreEnds (Scalar w) (b ∷ c ∷ []) g

-- the same of cells of which one is var
pub record HasEnds (row : Row) (cs : List Cell) (e : Ends) : Type 0 where
  pub var : all_par cs ≡ false
  pub ends : AreEnds row (map bounds_in cs) e

-- ---- worked examples

-- 1..3 and 2
sum_ends : AreEnds (Scalar (scalar.Arith arith.Add)) (one (number (pos 1, pos 3)) ∷ one (number (pos 2, pos 2)) ∷ []) (pos 3, pos 5)
unfolding scalar_bounds ends_at bounds_at arith_ends
sum_ends = record { simple = refl; bounds = refl; inside = refl }

-- a comparison may be false or true, whatever its arguments are
equal_ends : (bs : List Bounds) → AreEnds (Scalar scalar.Equal) bs (pos 0, pos 1)
unfolding scalar_bounds
equal_ends bs = record { simple = refl; bounds = refl; inside = refl }

-- a var integer in 1..3 beside 2; two par integers have a value in place of ends
var_ends : HasEnds (Scalar (scalar.Arith arith.Sub)) (Var (one (number (pos 1, pos 3))) None ∷ Par (Some (int (pos 2))) ∷ []) (negsuc 0, pos 1)
unfolding scalar_bounds ends_at bounds_at arith_ends bounds_of bound_of
var_ends = record { var = refl; ends = record { simple = refl; bounds = refl; inside = refl } }

-- past the limit
too_far : (is_number (pos (2 ^ 61 + 1)) && is_number (pos (2 ^ 61 + 1))) ≡ false
too_far = refl
