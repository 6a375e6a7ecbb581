-- The elements of arrays.
use Rattle.std.proofs.Common.{◌≡◌, List, [], ◌∷◌, refl, ap}
use Rattle.mz_value.specs.Ranges.{Range}
use Rattle.mz_value.specs.Contents.{Content, array, contents}
use Rattle.mz_operations.specs.Views.{items_in, as_items, as_row}
use Rattle.mz_builtin_arguments.specs.StepsViews.{row_items}
use Rattle.std.specs.Prelude.{Some}

pub items_in_contents : (xs : List Content) → items_in (contents xs) ≡ xs
items_in_contents [] = refl
items_in_contents (x ∷ xs) = ap (λ t. x ∷ t) (items_in_contents xs)

pub as_items_is : (rs : List Range) (xs : List Content) → as_items (array rs (contents xs)) ≡ Some xs
unfolding as_items
as_items_is rs xs = ap Some (items_in_contents xs)

pub as_row_is : (rs : List Range) (xs : List Content) → as_row (array rs (contents xs)) ≡ row_items rs xs
unfolding as_row
as_row_is [] xs = refl
as_row_is (r ∷ []) xs = ap Some (items_in_contents xs)
as_row_is (r ∷ s ∷ rs) xs = refl
