-- Sets of cells, which no reading changes.
use Rattle.std.proofs.Common.{◌≡◌, ◌∙◌, true, List, [], ◌∷◌, Option, Some, map, refl, sym, ap}
use Rattle.std.specs.Option.{option_map}
use Rattle.mz_value.specs.Contents.{Content}
use Rattle.mz_value.specs.Contents as values
use Rattle.mz_core.specs.Types.{PlainType}
use Rattle.mz_meaning.specs.Coerced.{enum_in}
use Rattle.mz_meaning.specs.Arrays.{set_cell, set_from}
use Rattle.mz_meaning.specs.Cells.{Cell, Par, is_par, par_value_of}
use Rattle.mz_symbol.specs.Readings.{Reading}
use Rattle.mz_eval_cells.specs.declared.types.Known.{Known}
use Rattle.mz_eval_cells.specs.declared.types.Known.TheVariants as known
use Rattle.mz_eval_cells.specs.Views.{all_seen, cell_of, cells_of, seen}
use Rattle.mz_eval_nodes.specs.Views.{Gathered, Items, Cells, gathered, gathered_by}

par_same : (r : Reading) (k : Known) → is_par (cell_of k) ≡ true → cell_of k ≡ seen r k
par_same r known.Undefined h = refl
par_same r (known.One i) h = refl
par_same r (known.Array ix xs) h = refl
par_same r (known.Var x) h = absurd (cc)
par_same r (known.Row ix xs) h = absurd (cc)
par_same r (known.Unshaped d) h = absurd (cc)

par_value_same : (r : Reading) (k : Known) → par_value_of (cell_of k) ≡ par_value_of (seen r k)
par_value_same r known.Undefined = refl
par_value_same r (known.One i) = refl
par_value_same r (known.Array ix xs) = refl
par_value_same r (known.Var x) = refl
par_value_same r (known.Row ix xs) = refl
par_value_same r (known.Unshaped d) = refl

par_values_same : (r : Reading) (ks : List Known) → map par_value_of (cells_of ks) ≡ map par_value_of (all_seen r ks)
par_values_same r [] = refl
par_values_same r (k ∷ ks) = ap (λ v. v ∷ map par_value_of (cells_of ks)) (par_value_same r k) ∙ ap (λ vs. par_value_of (seen r k) ∷ vs) (par_values_same r ks)

gathered_same : (r : Reading) (g : Gathered) → map par_value_of (gathered g) ≡ map par_value_of (gathered_by (seen r) g)
gathered_same r (Items v) = refl
gathered_same r (Cells v) = par_values_same r v.items

-- the set of these par values
abbrev set_over : PlainType → List (Option Content) → Cell
set_over t vs = Par (option_map (values.set (enum_in t.base)) (set_from (Some []) vs))

pub set_seen : (r : Reading) (t : PlainType) (g : Gathered) (k : Known) → cell_of k ≡ set_cell t (gathered g) → seen r k ≡ set_cell t (gathered_by (seen r) g)
set_seen r t g k e = sym (par_same r k (ap is_par e)) ∙ e ∙ ap (set_over t) (gathered_same r g)
