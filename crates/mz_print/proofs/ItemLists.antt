-- The items of an array that is made of a list, and how many elements a list has in a view.
use Rattle.std.proofs.Common.{◌≡◌, List, [], ◌∷◌, length, map, refl, ap}
use Rattle.std.proofs.lemmas.List.{length-map}
use Rattle.mz_value.specs.Contents.{Content, contents}
use Rattle.mz_operations.specs.Views.{items_in}

pub items_in_contents : (xs : List Content) → items_in (contents xs) ≡ xs
items_in_contents [] = refl
items_in_contents (x ∷ xs) = ap (λ ys. x ∷ ys) (items_in_contents xs)

pub as_many : {A B : Type 0} (view : A → B) (xs : List A) → length (map view xs) ≡ length xs
as_many view xs = length-map xs view
