-- Arrays of elements that a line has.
use Rattle.std.proofs.Common.{◌≡◌, List, [], ◌∷◌, map, Option, Some, None, refl, sym, ap}
use Rattle.std.specs.Option.{option_map}
use Rattle.mz_value.specs.Ranges.{Range}
use Rattle.mz_value.specs.Contents.{Content, contents}
use Rattle.mz_value.specs.Contents as values
use Rattle.mz_core.specs.declared.types.Base.{Base}
use Rattle.mz_builtin_arguments.proofs.Views.{items_in_contents}
use Rattle.mz_meaning.specs.Cells.{Mode, Blank, Given, held}
use Rattle.mz_meaning.specs.Coerced.{recast}
use Rattle.mz_eval_cells.specs.Views.{array_of, cast_by}
use Rattle.mz_eval_symbols.specs.Steps.{elements_cast, item_cast}

array_is : (ix : List Range) (v : Option (List Content)) → array_of ix v ≡ option_map (λ xs. values.array ix (contents xs)) v
array_is ix None = refl
array_is ix (Some xs) = refl

pub array_told : (m : Mode) (ix : List Range) (v : Option (List Content)) → held m (array_of ix v) ≡ held m (option_map (λ xs. values.array ix (contents xs)) v)
array_told m ix v = ap (held m) (array_is ix v)

pub held_twice : (m : Mode) (v : Option Content) → held m (held m v) ≡ held m v
held_twice (Blank n) v = refl
held_twice (Given f) v = refl

-- an array of elements that are recast
pub array_cast : (c : Option Base) (ix : List Range) (v : Option (List Content)) → cast_by c (array_of ix v) ≡ option_map (λ xs. values.array ix (contents xs)) (elements_cast c v)
array_cast None ix v = array_is ix v
array_cast (Some b) ix None = refl
array_cast (Some b) ix (Some xs) = ap (λ ys. Some (values.array ix (contents (map (recast b) ys)))) (items_in_contents xs)

same_items : (xs : List Content) → map (item_cast None) xs ≡ xs
same_items [] = refl
same_items (x ∷ xs) = ap (λ ys. x ∷ ys) (same_items xs)

pub items_cast : (c : Option Base) (xs : List Content) → elements_cast c (Some xs) ≡ Some (map (item_cast c) xs)
items_cast None xs = ap (λ ys. Some ys) (sym (same_items xs))
items_cast (Some b) xs = refl

pub items_same : (xs : List Content) → Some (map (item_cast None) xs) ≡ Some xs
items_same xs = ap (λ ys. Some ys) (same_items xs)
