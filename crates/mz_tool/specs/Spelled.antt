-- WHAT IS ASKED OF THE NAMES of a model's declarations: FlatZinc can spell them, and the compiler doesn't make them.
use Rattle.std.specs.Prelude.{◌≡◌, true, false}
use Rattle.mz_base.specs.Words.{is_identifier}
use Rattle.fz_program.specs.Names.{Name, is_reserved}

-- an identifier that doesn't begin with `X_`
abbrev pub IsSpelled : Name → Type 0
IsSpelled x = (is_identifier x ≡ true) × (is_reserved x ≡ false)
