-- What is the same under each reading.
use Rattle.std.proofs.Common.{◌≡◌, ◌∙◌, ℕ, refl, sym, ap}
use Rattle.mz_core.specs.declared.types.Coercion.{Coercion}
use Rattle.mz_core.specs.declared.types.Coercion.TheVariants as coercion
use Rattle.mz_meaning.specs.Cells.{set_in}
use Rattle.mz_meaning.specs.Coerced.{coercion_work, set_size}
use Rattle.mz_symbol.specs.Readings.{Reading}
use Rattle.mz_eval_cells.specs.declared.types.Known.{Known}
use Rattle.mz_eval_cells.specs.Views.{cell_of, seen}
use Rattle.mz_eval_cells.proofs.Seeing.{set_seen}

same_work : (r : Reading) (c : Coercion) (k : Known) → coercion_work c (cell_of k) ≡ coercion_work c (seen r k)
same_work r coercion.SetToArray k = ap set_size (sym (set_seen r k))
same_work r c k = refl

pub work_seen : (r : Reading) (c : Coercion) (k : Known) (n : ℕ) → n ≡ coercion_work c (cell_of k) → n ≡ coercion_work c (seen r k)
work_seen r c k n e = e ∙ same_work r c k
