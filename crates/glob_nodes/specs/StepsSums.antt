-- Mirror of src/summing.rt; private clauses only.
use Rattle.std.specs.Prelude.{ℕ, ℤ, Option}
use Rattle.mz_symbol.specs.Runs.{Run}
use Rattle.mz_symbol.specs.Readings.{Reading}
use Rattle.mz_symbol.specs.Makes.{GoesOnBy}
use Rattle.glob_nodes.specs.Numbers.{IsNumber}

-- the sum so far, and what its nodes may cost
pub record SumSoFar (n : ℕ) (old new : Run) (f : Reading → Option ℤ) (id : ℕ) : Type 0 where
  pub goes : GoesOnBy n old new
  pub is : IsNumber old new f id
