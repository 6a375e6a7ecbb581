-- Mirror of src/guarding.rt; private clauses only.
use Rattle.std.specs.Prelude.{◌≡◌, ℕ, None}
use Rattle.mz_core.specs.declared.types.Base.TheVariants as base
use Rattle.mz_arena.specs.Values.{is_true}
use Rattle.mz_meaning.specs.Cells.{only_if}
use Rattle.mz_symbol.specs.declared.types.Symbol.{Symbol}
use Rattle.mz_symbol.specs.Runs.{Run}
use Rattle.mz_symbol.specs.Readings.{Reading, Reads, state_of}

-- a truth value that is no option
pub record IsTruth (s : Symbol) : Type 0 where
  pub is : s.base ≡ base.Bool
  pub plain : s.occurs ≡ None

-- the elements of a line where a truth value is true
pub record IsLineKept (old new : Run) (d line made : ℕ) : Type 0 where
  pub same : (r : Reading) → Reads r new → state_of r old ≡ state_of r new
  pub value : (r : Reading) → Reads r new → r.line made ≡ only_if (is_true (r.term d)) (r.line line)
