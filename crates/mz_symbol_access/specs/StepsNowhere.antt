-- Mirror of src/nowhere.rt; private clauses only.
use Rattle.std.specs.Prelude.{◌≡◌, ℕ, Bool, true, false, Option, Some, None}
use Rattle.mz_core.specs.declared.types.Base.{Base}
use Rattle.mz_core.specs.declared.types.Base.TheVariants as base
use Rattle.mz_symbol.specs.declared.types.Symbol.{Symbol}
use Rattle.mz_symbol.specs.Symbols.{symbol_value}
use Rattle.mz_symbol.specs.Runs.{Run}
use Rattle.mz_symbol.specs.Readings.{Reading, state_of}

-- at a node of this base, an option or not, what is undefined is false
abbrev pub is_false : Base → Bool → Bool
is_false base.Bool false = true
is_false b o = false

abbrev pub marked : Bool → ℕ → Option ℕ
marked true o = Some o
marked false o = None

-- a symbol that is undefined
pub record IsLost (r : Reading) (old new : Run) (s : Symbol) : Type 0 where
  pub same : state_of r old ≡ state_of r new
  pub undefined : symbol_value r.term s ≡ None
