-- Mirror of src/extremes.rt; private clauses only.
use Rattle.std.specs.Prelude.{◌≡◌, ◌⊎◌, ℕ, None}
use Rattle.mz_core.specs.declared.types.Base.TheVariants as base
use Rattle.mz_symbol.specs.declared.types.Lists.{Lists}

-- elements, this many, are integers and no options
pub record AreInts (ls : Lists) (n : ℕ) : Type 0 where
  pub plain : ls.occurs ≡ None
  pub ints : (ls.base ≡ base.Int) ⊎ (n ≡ 0)
