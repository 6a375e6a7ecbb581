-- Mirror of src/values.rt; private clauses only.
use Rattle.std.specs.Prelude.{◌≡◌, Bool, true, false, Some}
use Rattle.mz_value.specs.Contents.{bool}
use Rattle.mz_operations.specs.Arguments.{Arguments}
use Rattle.mz_globals.specs.declared.global.Global.{Global}
use Rattle.mz_globals.specs.declared.global.Global.TheVariants.{CountOf}
use Rattle.mz_globals.specs.Table.{line_of}

abbrev pub is_count : Global → Bool
is_count CountOf = true
is_count g = false

-- a constraint's truth value
abbrev pub Tells : Global → Arguments → Bool → Type 0
Tells CountOf args b = Unit {0}
Tells g args b = Some (bool b) ≡ (line_of g).value args
