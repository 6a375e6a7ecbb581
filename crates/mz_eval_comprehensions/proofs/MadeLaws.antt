-- The set of a comprehension's heads, under a reading.
use Rattle.std.proofs.Common.{◌≡◌, ◌∙◌, List, [], ◌∷◌, map, Option, Some, refl, ap}
use Rattle.std.specs.Option.{option_map}
use Rattle.mz_value.specs.Contents.{Content}
use Rattle.mz_value.specs.Contents as values
use Rattle.mz_core.specs.Types.{PlainType}
use Rattle.mz_meaning.specs.Arrays.{set_cell, set_from}
use Rattle.mz_meaning.specs.Coerced.{enum_in}
use Rattle.mz_meaning.specs.Cells.{Cell, Par, par_value_of}
use Rattle.mz_symbol.specs.Readings.{Reading}
use Rattle.mz_eval_cells.specs.declared.types.Known.{Known}
use Rattle.mz_eval_cells.specs.declared.types.Known.TheVariants as known
use Rattle.mz_eval_cells.specs.Views.{all_seen, cell_of, cells_of, seen}
use Rattle.mz_eval_arrays.specs.declared.gathering.Gathered.{Gathered}
use Rattle.mz_eval_arrays.specs.declared.gathering.Gathered.TheVariants as gathering
use Rattle.mz_eval_arrays.specs.Gathered.{gathered, gathered_by}

par_values : (r : Reading) (ks : List Known) → map par_value_of (cells_of ks) ≡ map par_value_of (all_seen r ks)
par_values r [] = refl
par_values r (k ∷ ks) = ap (λ v. v ∷ map par_value_of (cells_of ks)) (one k) ∙ ap (λ vs. par_value_of (seen r k) ∷ vs) (par_values r ks)
  where
    one : (k : Known) → par_value_of (cell_of k) ≡ par_value_of (seen r k)
    one known.Undefined = refl
    one (known.One i) = refl
    one (known.Array ix xs) = refl
    one (known.Var x) = refl
    one (known.Row ix xs) = refl
    one (known.Unshaped d) = refl

gathered_values : (r : Reading) (g : Gathered) → map par_value_of (gathered g) ≡ map par_value_of (gathered_by (seen r) g)
gathered_values r (gathering.Items v) = refl
gathered_values r (gathering.Cells v) = par_values r v.items

par_told : (r : Reading) (k : Known) (v : Option Content) → cell_of k ≡ Par v → seen r k ≡ Par v
par_told r known.Undefined v e = e
par_told r (known.One i) v e = e
par_told r (known.Array ix xs) v e = e
par_told r (known.Var x) v e = absurd (cc)
par_told r (known.Row ix xs) v e = absurd (cc)
par_told r (known.Unshaped d) v e = absurd (cc)

pub set_told : (r : Reading) (t : PlainType) (g : Gathered) (k : Known) → cell_of k ≡ set_cell t (gathered g) → seen r k ≡ set_cell t (gathered_by (seen r) g)
set_told r t g k e = par_told r k _ e ∙ ap (λ vs. set_of vs) (gathered_values r g)
  where
    set_of : List (Option Content) → Cell
    set_of vs = Par (option_map (values.set (enum_in t.base)) (set_from (Some []) vs))
