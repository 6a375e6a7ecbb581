-- Bounds within other bounds.
use Rattle.std.specs.Prelude.{◌≡◌, ◌≢◌, ◌≤ℤ◌, pos, List, [], ◌∷◌}
use Rattle.mz_value.specs.Ranges.{Range, AreCanonical}
use Rattle.mz_interval.specs.Ends.{Ends}
use Rattle.mz_operations.specs.declared.row.Arith.{Arith}
use Rattle.mz_operations.specs.declared.row.Arith.TheVariants.{Div}
use Rattle.mz_operations.specs.declared.row.Sign.{Sign}
use Rattle.mz_operations.specs.declared.row.Side.{Side}
use Rattle.mz_operations.specs.declared.row.SetOp.{SetOp}
use Rattle.mz_operations.specs.Bounds.{arith_ends, sign_ends, extreme_ends, card_ends, hull_of_all, union_of_all, hull_of_set, combined_upper}
use Rattle.mz_operations.specs.Laws.{IsSet, IsPart, AreSets}

-- e has nothing that g hasn't
pub record IsWithin (e g : Ends) : Type 0 where
  pub from : g.0 ≤ℤ e.0
  pub to : e.1 ≤ℤ g.1

-- e has a number
abbrev pub IsOrdered : Ends → Type 0
IsOrdered e = e.0 ≤ℤ e.1

-- a divisor in these bounds may be other than 0
abbrev pub MayDivide : Ends → Type 0
MayDivide f = f.0 ≡ pos 0 → f.1 ≢ pos 0

-- element by element
abbrev pub AreWithin : List Ends → List Ends → Type 0
AreWithin [] [] = Unit {0}
AreWithin (e ∷ es) (g ∷ gs) = IsWithin e g × AreWithin es gs
AreWithin [] (g ∷ gs) = ⊥
AreWithin (e ∷ es) [] = ⊥

abbrev pub AreParts : List (List Range) → List (List Range) → Type 0
AreParts [] [] = Unit {0}
AreParts (u ∷ us) (w ∷ ws) = IsPart u w × AreParts us ws
AreParts [] (w ∷ ws) = ⊥
AreParts (u ∷ us) [] = ⊥

-- ---- the laws

-- a divisor that is 0 alone gives 0..0, which may lie outside
abbrev pub ArithIsMonotone : Type 0
ArithIsMonotone = (op : Arith) (e f g h : Ends) → IsOrdered e → IsOrdered f → IsWithin e g → IsWithin f h → (op ≡ Div → MayDivide f) → IsWithin (arith_ends op e f) (arith_ends op g h)

abbrev pub SignIsMonotone : Type 0
SignIsMonotone = (op : Sign) (e g : Ends) → IsWithin e g → IsWithin (sign_ends op e) (sign_ends op g)

abbrev pub ExtremeIsMonotone : Type 0
ExtremeIsMonotone = (side : Side) (es gs : List Ends) → AreWithin es gs → IsWithin (extreme_ends side es) (extreme_ends side gs)

-- branches
abbrev pub HullIsMonotone : Type 0
HullIsMonotone = (es gs : List Ends) → AreWithin es gs → IsWithin (hull_of_all es) (hull_of_all gs)

abbrev pub CardIsMonotone : Type 0
CardIsMonotone = (u w : List Range) → AreCanonical u → AreCanonical w → IsPart u w → IsWithin (card_ends u) (card_ends w)

-- an empty domain gives 0..0, which may lie outside
abbrev pub HullOfSetIsMonotone : Type 0
HullOfSetIsMonotone = (u w : List Range) → AreCanonical u → AreCanonical w → u ≢ [] → IsPart u w → IsWithin (hull_of_set u) (hull_of_set w)

abbrev pub SetIsMonotone : Type 0
SetIsMonotone = (op : SetOp) (s t u w : List Range) → IsSet s → IsSet t → IsSet u → IsSet w → IsPart s u → IsPart t w → IsPart (combined_upper op s t) (combined_upper op u w)

abbrev pub UnionIsMonotone : Type 0
UnionIsMonotone = (us ws : List (List Range)) → AreSets us → AreSets ws → AreParts us ws → IsPart (union_of_all us) (union_of_all ws)
