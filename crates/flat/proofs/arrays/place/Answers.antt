use Rattle.std.proofs.Common.{ap, sym, ◌∙◌}
use Rattle.flat.specs.Arrays.{as_place}
use Rattle.flat.proofs.Stepping.{has_place}
use Rattle.flat.proofs.arrays.place.Goals as goal

pub arg-requires : goal.arg-requires
arg-requires c = has_place _ _ c.requires

pub returns : goal.returns
returns c = c.as_place.ensures ∙ ap as_place (sym c.in-Ok.ensures)
