-- Mirror of src/arrays.rt; private clauses only.
use Rattle.std.specs.Prelude.{◌≡◌, ℕ, ◌*◌, List, map, replicate}
use Rattle.mz_meaning.specs.Domains.{Domain}
use Rattle.mz_meaning.specs.Runs.{noted}
use Rattle.mz_symbol.specs.declared.types.Free.{Free}
use Rattle.mz_symbol.specs.declared.types.Symbol.{Symbol}
use Rattle.mz_symbol.specs.Runs.{Run}
use Rattle.mz_symbol.specs.Readings.{Reading, Reads, state_of}
use Rattle.mz_symbol.specs.Makes.{GoesOnBy}

-- so many choices from a domain were taken, and the state has no other change
pub record Takes (n : ℕ) (d : Domain) (old new : Run) : Type 0 where
  pub goes : GoesOnBy (8 * n) old new
  pub taken : (r : Reading) → Reads r new → noted r.mode (replicate n d) 0 (state_of r old) ≡ state_of r new

-- their symbols, in order
abbrev pub symbols_of : List Free → List Symbol
symbols_of fs = map (λ f. f.symbol) fs
