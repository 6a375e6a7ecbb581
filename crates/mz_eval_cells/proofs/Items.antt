-- Bounds of items and of arrays.
use Rattle.std.proofs.Common.{◌≡◌, ◌∙◌, List, map, length, refl, ap}
use Rattle.std.proofs.lemmas.List.{length-map}
use Rattle.mz_value.specs.Ranges.{Range}
use Rattle.mz_value.specs.declared.value.Value.{Value}
use Rattle.mz_value.specs.Contents.{Content, content, contents}
use Rattle.mz_value.specs.Contents as values
use Rattle.mz_operations.specs.Bounds.{bound_of, bounds_of, nothing}
use Rattle.mz_operations.specs.Bounds as bounds
use Rattle.mz_operations.specs.Views.{items_in}
use Rattle.mz_builtin_arguments.proofs.Views.{items_in_contents}
use Rattle.mz_core.specs.declared.types.Base.{Base}
use Rattle.mz_meaning.specs.Cells.{scalar_bound}
use Rattle.mz_meaning.specs.Coerced.{recast, recast_all}
use Rattle.mz_eval_cells.specs.declared.types.Item.{Item}
use Rattle.mz_eval_cells.specs.declared.types.Item.TheVariants as item
use Rattle.mz_eval_cells.specs.Views.{item_content}

pub item_bounds : (i : Item) → bounds_of (item_content i) ≡ bounds.one (bound_of (item_content i))
unfolding bounds_of
item_bounds (item.Bool b) = refl
item_bounds (item.Int n) = refl
item_bounds (item.Enum e k) = refl
item_bounds item.Absent = refl
item_bounds (item.Set s) = refl
item_bounds (item.Text t) = refl

pub array_bounds : (ix : List Range) (xs : List Content) → bounds_of (values.array ix (contents xs)) ≡ bounds.many ix (map bound_of xs)
unfolding bounds_of
array_bounds ix xs = ap (λ ys. bounds.many ix (map bound_of ys)) (items_in_contents xs)

pub no_scalar : (ix : List Range) (xs : List Content) → scalar_bound (bounds_of (values.array ix (contents xs))) ≡ bounds.number nothing
no_scalar ix xs = ap scalar_bound (array_bounds ix xs)

pub recast_item : (b : Base) (i : Item) → recast_all b (item_content i) ≡ recast b (item_content i)
recast_item b (item.Bool p) = refl
recast_item b (item.Int n) = refl
recast_item b (item.Enum e k) = refl
recast_item b item.Absent = refl
recast_item b (item.Set s) = refl
recast_item b (item.Text t) = refl

pub items_length : (xs : List Value) → length (items_in (contents (map content xs))) ≡ length xs
items_length xs = ap length (items_in_contents (map content xs)) ∙ length-map xs content
