-- Mirror of src/constants.rt; private clauses only.
use Rattle.std.specs.Prelude.{ℕ, Option, Some, None}
use Rattle.mz_core.specs.declared.types.Base.{Base}
use Rattle.mz_core.specs.declared.types.Base.TheVariants as base

abbrev pub set_base : Option ℕ → Base
set_base None = base.SetInt
set_base (Some e) = base.SetEnum e
