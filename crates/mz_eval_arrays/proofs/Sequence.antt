-- The elements of arrays, in a generator's order.
use Rattle.std.proofs.Common.{◌≡◌, ℕ, ◌+◌, List, [], ◌∷◌, map, refl, ap}
use Rattle.std.specs.Prelude.{None}
use Rattle.std.specs.List.{enumerate_from}
use Rattle.mz_value.specs.declared.value.Value.{Value}
use Rattle.mz_value.specs.Contents.{content, contents}
use Rattle.mz_operations.specs.Bounds as bounds
use Rattle.mz_operations.specs.Views.{items_in}
use Rattle.mz_meaning.specs.Cells.{Bare, Var, par_value}
use Rattle.mz_meaning.specs.Comprehensions.{Element, surely, place_cell}
use Rattle.mz_eval_cells.specs.declared.types.Bound.{Bound}
use Rattle.mz_eval_cells.specs.Views.{known_bound}

abbrev value_elements : List Value → List Element
value_elements xs = map (λ x. (par_value (content x), None)) xs

abbrev place_elements : List Bound → List Element
place_elements bs = map (λ b. (Var (bounds.one (known_bound b)) None, None)) bs

pub each_value : (xs : List Value) → value_elements xs ≡ map (λ x. surely (par_value x)) (items_in (contents (map content xs)))
each_value [] = refl
each_value (x ∷ xs) = ap (λ t. surely (par_value (content x)) ∷ t) (each_value xs)

pub each_place : (k : ℕ) (bs : List Bound) → place_elements bs ≡ map (place_cell Bare None) (enumerate_from k (map known_bound bs))
each_place k [] = refl
each_place k (b ∷ bs) = ap (λ t. surely (Var (bounds.one (known_bound b)) None) ∷ t) (each_place (k + 1) bs)
