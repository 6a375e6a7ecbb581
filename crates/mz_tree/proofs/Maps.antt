-- One function after another over a list.
use Rattle.std.proofs.Common.{◌≡◌, ap, map, List, [], ◌∷◌, refl}

pub map_map : {A B C : Type 0} (f : B → C) (g : A → B) (xs : List A) → map f (map g xs) ≡ map (λ x. f (g x)) xs
map_map f g [] = refl
map_map f g (x ∷ xs) = ap (λ ys. f (g x) ∷ ys) (map_map f g xs)
