-- Rows among what may be called.
use Rattle.mz_check_meaning.specs.declared.callee.Callee.{Callee}
use Rattle.mz_check_meaning.specs.declared.callee.Callee.TheVariants.{Row, Function}

abbrev pub IsRow : Callee → Type 0
IsRow (Row r) = Unit {0}
IsRow (Function f) = ⊥
