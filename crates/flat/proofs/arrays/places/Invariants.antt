use Rattle.std.proofs.Common.{◌≡◌, map, take}
use Rattle.flat_reif.specs.States.{state}
use Rattle.flat.specs.Arrays.{place_at}
use Rattle.flat.proofs.arrays.places.Given as goal

abbrev pub invariant-ids : goal.invariant-ids
invariant-ids l = l.all.items ≡ map (place_at (state l.flat).args) (take l.id-index l.ids)
