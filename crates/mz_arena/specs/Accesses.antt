-- The bounds of accesses within those of wider ones.
use Rattle.std.specs.Prelude.{◌≢◌, List, [], ◌∷◌}
use Rattle.mz_value.specs.Ranges.{Range}
use Rattle.mz_interval.specs.Ends.{Ends}
use Rattle.mz_operations.specs.Bounds.{hull_of_all, union_of_all}
use Rattle.mz_operations.specs.Laws.{IsPart, AreSets}
use Rattle.mz_operations.specs.Monotone.{IsWithin, IsOrdered, AreWithin, AreParts}
use Rattle.mz_arena.specs.Extents.{reached}

abbrev pub AreOrdered : List Ends → Type 0
AreOrdered [] = Unit {0}
AreOrdered (e ∷ es) = IsOrdered e × AreOrdered es

-- where no place is reached, the bounds are 0..0, which may lie outside
abbrev pub AccessIsMonotone : Type 0
AccessIsMonotone = (e g : Ends) (es gs : List Ends) → IsWithin e g → AreOrdered es → AreWithin es gs → reached e es ≢ [] → IsWithin (hull_of_all (reached e es)) (hull_of_all (reached g gs))

abbrev pub SetAccessIsMonotone : Type 0
SetAccessIsMonotone = (e g : Ends) (us ws : List (List Range)) → IsWithin e g → AreSets us → AreSets ws → AreParts us ws → IsPart (union_of_all (reached e us)) (union_of_all (reached g ws))
