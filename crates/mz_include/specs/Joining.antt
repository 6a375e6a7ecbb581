-- The name under which an included file is fetched.
use Rattle.std.specs.Prelude.{◌≡◌, ℕ, List, [], ◌∷◌, ◌++◌, Bool, false, nat_eq, codes, refl, if◌then◌else◌}
use Rattle.std.specs.List.{list_any}

-- `/`
abbrev pub slash : ℕ
slash = 47

-- a name up to and with its last `/`, and nothing where it has none
unfoldable pub folder : List ℕ → List ℕ
folder [] = []
folder (b ∷ bs) = if list_any (nat_eq slash) (b ∷ bs) then b ∷ folder bs else []

abbrev pub begins_with_slash : List ℕ → Bool
begins_with_slash [] = false
begins_with_slash (b ∷ bs) = nat_eq slash b

-- a name that begins with `/` stands as it is, and any other after the including file's folder
abbrev pub joined : List ℕ → List ℕ → List ℕ
joined including written = if begins_with_slash written then written else folder including ++ written

-- files of one folder name each other by their last names
pub in_no_folder : joined (codes "m.mzn") (codes "a.mzn") ≡ codes "a.mzn"
unfolding folder
in_no_folder = refl

pub in_one_folder : joined (codes "models/m.mzn") (codes "a.mzn") ≡ codes "models/a.mzn"
unfolding folder
in_one_folder = refl

-- only the last part of the including file's name is left out, and nothing is shortened
pub in_a_deeper_folder : joined (codes "x/y/m.mzn") (codes "../a.mzn") ≡ codes "x/y/../a.mzn"
unfolding folder
in_a_deeper_folder = refl

pub from_the_root : joined (codes "models/m.mzn") (codes "/lib/a.mzn") ≡ codes "/lib/a.mzn"
unfolding folder
from_the_root = refl

pub of_a_folder : folder (codes "models/") ≡ codes "models/"
unfolding folder
of_a_folder = refl
