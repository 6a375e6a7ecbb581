-- Mirror of src/recasting.rt; private clauses only.
use Rattle.std.specs.Prelude.{Bool, true, false}
use Rattle.mz_core.specs.declared.types.Base.{Base}
use Rattle.mz_core.specs.declared.types.Base.TheVariants as base

-- values of this base are sets
abbrev pub is_set_cast : Base → Bool
is_set_cast base.SetInt = true
is_set_cast (base.SetEnum e) = true
is_set_cast b = false
