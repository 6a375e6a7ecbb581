-- A constraint's truth value is its value.
use Rattle.std.proofs.Common.{◌≡◌, Bool, true, false, refl}
use Rattle.std.specs.Prelude.{Some}
use Rattle.mz_value.specs.Contents.{bool}
use Rattle.mz_operations.specs.Arguments.{Arguments}
use Rattle.mz_globals.specs.declared.global.Global.{Global}
use Rattle.mz_globals.specs.declared.global.Global.TheVariants.{CountOf}
use Rattle.mz_globals.specs.Table.{line_of}
use Rattle.mz_eval_globals.specs.Tells.{Tells, is_count}

pub told : (g : Global) (args : Arguments) (b : Bool) → is_count g ≡ false → Tells g args b → Some (bool b) ≡ (line_of g).value args
told CountOf args b e t = absurd (cc)
told g args b e t = t

pub is_count_of : (g : Global) → is_count g ≡ true → g ≡ CountOf
is_count_of CountOf e = refl
is_count_of g e = absurd (cc)
