-- Arrays under each reading.
use Rattle.std.proofs.Common.{◌≡◌, ◌∙◌, ℕ, List, [], Option, Some, None, refl, sym, ap}
use Rattle.std.specs.Prelude.{unwrap_or}
use Rattle.std.specs.Option.{option_map}
use Rattle.mz_value.specs.Ranges.{Range}
use Rattle.mz_value.specs.Contents.{Content, contents}
use Rattle.mz_core.specs.declared.types.Base.{Base}
use Rattle.mz_meaning.specs.Cells.{Mode, held, index_of}
use Rattle.mz_meaning.specs.Arrays.{moved_value, own_ranges}
use Rattle.mz_symbol.specs.Readings.{Reading}
use Rattle.mz_eval_cells.specs.declared.types.Known.{Known}
use Rattle.mz_eval_cells.specs.declared.types.Known.TheVariants as known
use Rattle.mz_eval_cells.specs.declared.types.VarItems.{VarItems}
use Rattle.mz_eval_cells.specs.Views.{array_of, cast_by, cell_of, origins_value, row_content, seen}
use Rattle.mz_eval_cells.proofs.Held.{held_map}

pub own_same : (r : Reading) (k : Known) → own_ranges (seen r k) ≡ own_ranges (cell_of k)
own_same r known.Undefined = refl
own_same r (known.One i) = refl
own_same r (known.Array ix xs) = refl
own_same r (known.Var x) = refl
own_same r (known.Row ix xs) = refl
own_same r (known.Unshaped d) = refl

array_moved : (c : Option Base) (ix jx : List Range) (v : Option (List Content)) → cast_by c (array_of jx v) ≡ option_map (moved_value jx) (cast_by c (array_of ix v))
array_moved None ix jx None = refl
array_moved None ix jx (Some xs) = refl
array_moved (Some b) ix jx None = refl
array_moved (Some b) ix jx (Some xs) = refl

pub row_moved : (m : Mode) (l : ℕ → Option (List Content)) (ix jx : List Range) (xs : VarItems) → held m (row_content l jx xs) ≡ option_map (moved_value jx) (held m (row_content l ix xs))
row_moved m l ix jx xs = ap (held m) (array_moved xs.cast ix jx (origins_value l xs.origins)) ∙ sym (held_map m (moved_value jx) (row_content l ix xs))
