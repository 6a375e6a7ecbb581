-- What generators run over, under a reading.
use Rattle.std.proofs.Common.{◌≡◌, ◌∙◌, ℕ, List, [], ◌∷◌, map, Option, Some, None, slice_get, refl, ap}
use Rattle.std.specs.Option.{option_and_then}
use Rattle.std.specs.List.{enumerate_from}
use Rattle.mz_value.specs.declared.value.Value.{Value}
use Rattle.mz_value.specs.Ranges.{Range}
use Rattle.mz_value.specs.Contents.{Content, content, contents}
use Rattle.mz_core.specs.declared.types.Base.{Base}
use Rattle.mz_operations.specs.Bounds as bounds
use Rattle.mz_operations.specs.Views.{as_items, items_in}
use Rattle.mz_meaning.specs.Coerced.{recast}
use Rattle.mz_meaning.specs.Cells.{Mode, Blank, Given, Var, held, par_value}
use Rattle.mz_meaning.specs.Comprehensions.{place_cell, surely}
use Rattle.mz_symbol.specs.Readings.{Reading}
use Rattle.mz_symbol_arrays.proofs.RowLaws.{items_back}
use Rattle.mz_eval_cells.specs.declared.types.VarItems.{VarItems}
use Rattle.mz_eval_cells.specs.Views.{array_of, cast_by, row_content}
use Rattle.mz_eval_symbols.specs.Steps.{elements_cast}
use Rattle.mz_eval_comprehensions.specs.Views.{place_in, value_element}

pub held_held : (m : Mode) (v : Option Content) → held m (held m v) ≡ held m v
held_held (Blank n) v = refl
held_held (Given f) v = refl

pub held_none : (m : Mode) → held m None ≡ None
held_none (Blank n) = refl
held_none (Given f) = refl

pub each_value : (xs : List Value) → map value_element xs ≡ map (λ x. surely (par_value x)) (items_in (contents (map content xs)))
each_value [] = refl
each_value (x ∷ xs) = ap (λ t. surely (par_value (content x)) ∷ t) (each_value xs)

-- ---- var arrays

place_told : (m : Mode) (c : Option Base) (ix : List Range) (o : Option (List Content)) (p : ℕ × bounds.Bound)
    → place_cell m (held m (cast_by c (array_of ix o))) p ≡ surely (Var (bounds.one p.1) (held m (option_and_then (λ ys. slice_get ys p.0) (elements_cast c o))))
unfolding as_items
place_told (Blank n) c ix o p = refl
place_told (Given f) None ix None p = refl
place_told (Given f) None ix (Some xs) p = ap (λ ys. surely (Var (bounds.one p.1) (slice_get ys p.0))) (items_back xs)
place_told (Given f) (Some b) ix None p = refl
place_told (Given f) (Some b) ix (Some xs) p = ap (λ ys. surely (Var (bounds.one p.1) (slice_get ys p.0))) (items_back (map (recast b) (items_in (contents xs))) ∙ ap (map (recast b)) (items_back xs))

all_told : (r : Reading) (ix : List Range) (xs : VarItems) (ps : List (ℕ × bounds.Bound)) → map (place_cell r.mode (held r.mode (row_content r.line ix xs))) ps ≡ map (place_in r xs) ps
all_told r ix xs [] = refl
all_told r ix xs (p ∷ ps) =
    ap (λ x. x ∷ map (place_cell r.mode (held r.mode (row_content r.line ix xs))) ps) (place_told r.mode xs.cast ix _ p)
    ∙ ap (λ t. place_in r xs p ∷ t) (all_told r ix xs ps)

pub row_told : (r : Reading) (ix : List Range) (xs : VarItems) (bs : List bounds.Bound) → map (place_cell r.mode (held r.mode (row_content r.line ix xs))) (enumerate_from 0 bs) ≡ map (place_in r xs) (enumerate_from 0 bs)
row_told r ix xs bs = all_told r ix xs (enumerate_from 0 bs)
