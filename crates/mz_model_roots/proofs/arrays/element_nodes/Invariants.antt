use Rattle.mz_model_roots.specs.StepsEqual.{AreSoFar}
use Rattle.mz_model_roots.proofs.arrays.element_nodes.Given as goal

abbrev pub invariant-loop-i : goal.invariant-loop-i
invariant-loop-i l = AreSoFar l.fn.run l.run l.places l.items l.i l.all.items
