-- Roots of arrays with a shape.
use Rattle.std.proofs.Common.{◌≡◌, ℕ, List, subst}
use Rattle.mz_value.specs.Ranges.{Range}
use Rattle.mz_symbol.specs.declared.types.Free.{Free}
use Rattle.mz_symbol.specs.Runs.{Run}
use Rattle.mz_eval_cells.specs.declared.types.Known.{Known}
use Rattle.mz_eval_symbols.specs.Taken.{ranges_in}
use Rattle.mz_model_state.specs.Hands.{ManyPlaces}
use Rattle.mz_model_roots.specs.Rooted.{view, HasRanges, AreRootsOf}

-- with the ranges that the value has
pub shaped_roots : (s : Run) (fs : List Free) (k : Known) (ids : List ℕ) (ix : List Range) → ((ix : List Range) → HasRanges ix k → ranges_in k ≡ ix) → AreRootsOf s (ManyPlaces (ranges_in k) fs) (view k) ids → HasRanges ix k → AreRootsOf s (ManyPlaces ix fs) (view k) ids
shaped_roots s fs k ids ix shaped roots has = subst (λ (ix : List Range). AreRootsOf s (ManyPlaces ix fs) (view k) ids) (shaped ix has) roots
