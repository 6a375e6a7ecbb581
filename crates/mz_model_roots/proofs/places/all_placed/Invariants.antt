use Rattle.std.specs.Vec.Iter.{into_iter_items}
use Rattle.mz_model_roots.specs.StepsPlaces.{AreSoFar}
use Rattle.mz_model_roots.proofs.places.all_placed.Given as goal

abbrev pub invariant-loop-set : goal.invariant-loop-set
invariant-loop-set l = AreSoFar l.fn.run l.run l.number l.next l.base l.opt l.fn.sets.items (into_iter_items l.set-iterator) l.all.items
