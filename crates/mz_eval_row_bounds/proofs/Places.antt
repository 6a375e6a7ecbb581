-- The argument at a place, and its bounds.
use Rattle.std.proofs.Common.{◌≡◌, ℕ, List, ap, ◌∙◌}
use Rattle.std.specs.Prelude.{Some, None, slice_get}
use Rattle.std.specs.Option.{option_map}
use Rattle.std.proofs.lemmas.Option.{slice_get-map}
use Rattle.mz_meaning.specs.Cells.{bounds_in}
use Rattle.mz_eval_cells.specs.declared.types.Known.{Known}
use Rattle.mz_eval_cells.specs.Views.{cell_of, cells_of}
use Rattle.mz_eval_row_bounds.specs.Arguments.{all_bounds}

bounds_of_argument : (ks : List Known) (k : ℕ) → slice_get (all_bounds ks) k ≡ option_map bounds_in (option_map cell_of (slice_get ks k))
bounds_of_argument ks k = slice_get-map bounds_in (cells_of ks) k ∙ ap (option_map bounds_in) (slice_get-map cell_of ks k)

pub argument_there : (ks : List Known) (k : ℕ) (c : Known) → slice_get ks k ≡ Some c → slice_get (all_bounds ks) k ≡ Some (bounds_in (cell_of c))
argument_there ks k c e = bounds_of_argument ks k ∙ ap (λ o. option_map bounds_in (option_map cell_of o)) e

pub argument_missing : (ks : List Known) (k : ℕ) → slice_get ks k ≡ None → slice_get (all_bounds ks) k ≡ None
argument_missing ks k e = bounds_of_argument ks k ∙ ap (λ o. option_map bounds_in (option_map cell_of o)) e
