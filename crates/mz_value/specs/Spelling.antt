-- How a set's elements are spelled.
use Rattle.std.specs.Prelude.{ℕ, ℤ, List, map}
use Rattle.std.specs.Fmt.{signed_decimal}
use Rattle.std.specs.List.{AllByRecursion}
use Rattle.mz_value.specs.declared.shown.Spelling.{Spelling}
use Rattle.mz_value.specs.declared.shown.Spelling.TheVariants.{Decimal, Names}
use Rattle.mz_value.specs.Ranges.{Range}
use Rattle.mz_value.specs.Contents.{text_bytes}
use Rattle.mz_value.specs.Shown.{IsCase, name_at}

abbrev pub spell : Spelling → ℤ → List ℕ
spell Decimal n = signed_decimal n
spell (Names labels) n = name_at (map text_bytes labels.now) n

-- an element has a spelling
abbrev pub IsSpelled : Spelling → ℤ → Type 0
IsSpelled Decimal n = Unit {0}
IsSpelled (Names labels) n = IsCase (map text_bytes labels.now) n

abbrev pub AreSpelled : Spelling → List Range → Type 0
AreSpelled s rs = AllByRecursion (λ r. IsSpelled s r.0 × IsSpelled s r.1) rs
