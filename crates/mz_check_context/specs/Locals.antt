-- The local names as the code keeps them: the oldest first, each with the place of the one that it hides.
use Rattle.std.specs.Prelude.{◌≡◌, ℕ, List, [], ◌∷◌, Option, Some, None, nat_eq, map, length, reverse, if◌then◌else◌}
use Rattle.indexmap.specs.IndexMap.{get}
use Rattle.mz_core.specs.Types.{plain_type}
use Rattle.mz_check_meaning.specs.Models.{Local}
use Rattle.mz_check_context.specs.declared.newest.Newest.{Newest}
use Rattle.mz_check_context.specs.declared.scope.LocalName.{LocalName}

abbrev pub local : LocalName → Local
local l = record { name = l.name; slot = l.slot; ty = plain_type l.ty }

abbrev pub newest_first : List LocalName → List Local
newest_first ls = map local (reverse ls)

abbrev pub place_or_none : Option (Option ℕ) → Option ℕ
place_or_none None = None
place_or_none (Some place) = place

abbrev pub newest_of : Newest → ℕ → Option ℕ
newest_of m n = place_or_none (get nat_eq m.places n)

-- the place of the newest local of a name, in the list from the newest on
unfoldable pub place_in : ℕ → List LocalName → Option ℕ
place_in n [] = None
place_in n (l ∷ ls) = if nat_eq l.name n then Some (length ls) else place_in n ls

-- each knows the one that it hides, in the list from the newest on
unfoldable pub HideOlder : List LocalName → Type 0
HideOlder [] = Unit {0}
HideOlder (l ∷ ls) = (l.hidden ≡ place_in l.name ls) × HideOlder ls

pub record AreNewest (found : Newest) (ls : List LocalName) : Type 0 where
  pub places : (n : ℕ) → newest_of found n ≡ place_in n (reverse ls)
  pub hidden : HideOlder (reverse ls)
