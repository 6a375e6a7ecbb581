use Rattle.std.proofs.Common.{◌≡◌, ◌++◌, map, drop}
use Rattle.mz_print.specs.Names.{place_in, top_names}
use Rattle.mz_print.proofs.names.places.Given as goal

abbrev pub invariant-loop-name : goal.invariant-loop-name
invariant-loop-name l = map (place_in l.slots) (top_names l.names) ≡ l.places.items ++ map (place_in l.slots) (top_names (drop l.name-index l.names))
