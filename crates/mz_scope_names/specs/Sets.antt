-- Sets of names, as lists in the order in which the names were added.
use Rattle.std.specs.Prelude.{ℕ, List, [], ◌∷◌, ◌++◌, Bool, Option, nat_eq, position, if◌then◌else◌}
use Rattle.std.specs.List.{list_any}

-- the name is one of the list
abbrev pub holds : ℕ → List ℕ → Bool
holds n ns = list_any (nat_eq n) ns

abbrev pub with_name : List ℕ → ℕ → List ℕ
with_name ns n = if holds n ns then ns else ns ++ n ∷ []

-- the place of the name in the list, from 0
abbrev pub place_of : ℕ → List ℕ → Option ℕ
place_of n ns = position (nat_eq n) ns
