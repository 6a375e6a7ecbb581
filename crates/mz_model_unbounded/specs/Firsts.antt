-- The first of several places, in source order, found one after the other.
use Rattle.std.specs.Prelude.{List, [], ◌∷◌, Option, Some, None, if◌then◌else◌}
use Rattle.mz_base.specs.declared.fault.Span.{Span}
use Rattle.mz_meaning.specs.Unbounded.{stands_before}

-- the earlier one; of two that stand at the same byte, the one that is there
abbrev pub earlier : Option Span → Span → Option Span
earlier None b = Some b
earlier (Some a) b = if stands_before b a then Some b else Some a

-- the first of these, and of one that is there
unfoldable pub first_place : Option Span → List Span → Option Span
first_place best [] = best
first_place best (p ∷ ps) = first_place (earlier best p) ps
