-- Mirror of src/each.rt; private clauses only.
use Rattle.std.specs.Prelude.{ℕ, Bool}
use Rattle.mz_arena.specs.Values.{Term}
use Rattle.mz_symbol.specs.Runs.{Run}
use Rattle.mz_symbol.specs.Readings.{Reading}
use Rattle.mz_symbol.specs.Makes.{GoesOnBy}
use Rattle.glob_nodes.specs.Says.{Gives, Tells}

-- what is told so far, and what its nodes may cost
pub record Told (n : ℕ) (old new : Run) (f : Reading → Bool) (id : ℕ) : Type 0 where
  pub goes : GoesOnBy n old new
  pub tells : Tells old new f id

-- the same of a term
pub record Given (n : ℕ) (old new : Run) (f : Reading → Term) (id : ℕ) : Type 0 where
  pub goes : GoesOnBy n old new
  pub gives : Gives old new f id
