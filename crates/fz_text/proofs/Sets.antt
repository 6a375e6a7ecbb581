-- The spelling of a set by how many ranges it has.
use Rattle.std.proofs.Common.{◌≡◌, ◌<◌, List, [], ◌∷◌, length, refl, arith}
use Rattle.mz_value.specs.Ranges.{Range}
use Rattle.fz_text.specs.Spelling.{braces, interval, set}

pub set_of_one : (r : Range) (rs : List Range) → length rs ≡ 0 → set (r ∷ rs) ≡ interval r
unfolding set
set_of_one r [] h = refl
set_of_one r (s ∷ rs) h = absurd (omega arith)

pub set_of_more : (r : Range) (rs : List Range) → 0 < length rs → set (r ∷ rs) ≡ braces (r ∷ rs)
unfolding set
set_of_more r [] h = absurd (omega arith)
set_of_more r (s ∷ rs) h = refl
