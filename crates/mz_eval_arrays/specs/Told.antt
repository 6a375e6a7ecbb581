-- Cells whose values something tells; others are undefined under each reading.
use Rattle.std.specs.Prelude.{Bool, true, false}
use Rattle.mz_eval_cells.specs.declared.types.Origin.{Origin}
use Rattle.mz_eval_cells.specs.declared.types.Origin.TheVariants as origin
use Rattle.mz_eval_cells.specs.declared.types.Origins.{Origins}
use Rattle.mz_eval_cells.specs.declared.types.Origins.TheVariants as origins
use Rattle.mz_eval_cells.specs.declared.types.Known.{Known}
use Rattle.mz_eval_cells.specs.declared.types.Known.TheVariants as known

abbrev pub has_origin : Origin → Bool
has_origin origin.Nothing = false
has_origin o = true

abbrev pub has_origins : Origins → Bool
has_origins origins.Nothing = false
has_origins o = true

abbrev pub is_told : Known → Bool
is_told known.Undefined = false
is_told (known.One i) = true
is_told (known.Array ix xs) = true
is_told (known.Var x) = has_origin x.value.origin
is_told (known.Row ix xs) = has_origins xs.value.origins
is_told (known.Unshaped d) = false
