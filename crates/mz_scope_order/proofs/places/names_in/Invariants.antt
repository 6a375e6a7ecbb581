use Rattle.std.proofs.Common.{◌≡◌, drop, map, []}
use Rattle.mz_scope_names.specs.Sketches.{sketch}
use Rattle.mz_scope_order.specs.StepsPlaces.{names_in}
use Rattle.mz_scope_order.proofs.places.names_in.Given as goal

abbrev pub invariant-loop-o : goal.invariant-loop-o
invariant-loop-o l = names_in l.applied [] (map sketch l.sketches) ≡ names_in l.applied l.places (map sketch (drop l.o-index l.sketches))
