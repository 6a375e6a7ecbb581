use Rattle.mz_model_roots.specs.StepsPlaces.{AreWholeSoFar}
use Rattle.mz_model_roots.proofs.array_cells.symbols.Given as goal

abbrev pub invariant-loop-f : goal.invariant-loop-f
invariant-loop-f l = AreWholeSoFar l.fn.run l.run l.places l.f-index l.all.items
