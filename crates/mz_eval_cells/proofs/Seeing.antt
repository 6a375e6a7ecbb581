-- What is the same under each reading.
use Rattle.std.proofs.Common.{◌≡◌, refl}
use Rattle.mz_meaning.specs.Cells.{is_par, set_in}
use Rattle.mz_symbol.specs.Readings.{Reading}
use Rattle.mz_eval_cells.specs.declared.types.Known.{Known}
use Rattle.mz_eval_cells.specs.declared.types.Known.TheVariants as known
use Rattle.mz_eval_cells.specs.Views.{cell_of, seen}

pub par_seen : (r : Reading) (k : Known) → is_par (seen r k) ≡ is_par (cell_of k)
par_seen r known.Undefined = refl
par_seen r (known.One i) = refl
par_seen r (known.Array ix xs) = refl
par_seen r (known.Var x) = refl
par_seen r (known.Row ix xs) = refl
par_seen r (known.Unshaped d) = refl

pub set_seen : (r : Reading) (k : Known) → set_in (seen r k) ≡ set_in (cell_of k)
set_seen r known.Undefined = refl
set_seen r (known.One i) = refl
set_seen r (known.Array ix xs) = refl
set_seen r (known.Var x) = refl
set_seen r (known.Row ix xs) = refl
set_seen r (known.Unshaped d) = refl
