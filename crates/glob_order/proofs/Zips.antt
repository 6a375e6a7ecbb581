-- Pairs that are made again.
use Rattle.std.proofs.Common.{◌≡◌, List, [], ◌∷◌, map, refl, ap}

pub pairs_again : {A B : Type 0} (ps : List (A × B)) → map (λ p. (p.0, p.1)) ps ≡ ps
pairs_again [] = refl
pairs_again (p ∷ ps) = ap (λ qs. p ∷ qs) (pairs_again ps)
