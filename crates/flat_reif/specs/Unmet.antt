-- Nodes that no solution gives a value, and nodes that their bounds tell.
use Rattle.std.specs.Prelude.{◌≡◌, [], Some, false}
use Rattle.mz_interval.specs.Ends.{if_interval}
use Rattle.mz_arena.specs.Values as terms
use Rattle.mz_arena.specs.InBounds.{AreInDomains}
use Rattle.mz_arena.specs.Extents.{Known, whole, truth, subset}
use Rattle.fz_program.specs.Values.{Values}
use Rattle.fz_program.specs.Arguments.{Plain, bool, int, set}
use Rattle.flat_reif.specs.States.{State, Meets}

-- no solution meets the state
abbrev pub IsUnmet : State → Type 0
IsUnmet s = (v : terms.Values) (f : Values) → AreInDomains s.es v → Meets s v f → ⊥

-- some argument of the sort: the least integer of the bounds, false, or the empty set
abbrev pub IsAny : Known → Plain → Type 0
IsAny (Some (whole e)) p = (p ≡ int e.0) × (if_interval e ≡ Some e)
IsAny (Some (truth e)) p = p ≡ bool false
IsAny (Some (subset u)) p = p ≡ set []
IsAny _ p = ⊥

-- the number that an integer is by its bounds
abbrev pub IsFixed : Known → Plain → Type 0
IsFixed (Some (whole e)) p = (p ≡ int e.0) × (e.0 ≡ e.1) × (if_interval e ≡ Some e)
IsFixed _ p = ⊥
