-- Disjunctions in parts.
use Rattle.std.proofs.Common.{◌≡◌, Bool, true, false, ◌||◌, refl}

-- three tests, then a fourth, then a fifth
pub in_three_parts : (a b c d e : Bool) → (a || (b || (c || (d || e)))) ≡ ((a || (b || c)) || (d || e))
in_three_parts true b c d e = refl
in_three_parts false true c d e = refl
in_three_parts false false true d e = refl
in_three_parts false false false d e = refl
