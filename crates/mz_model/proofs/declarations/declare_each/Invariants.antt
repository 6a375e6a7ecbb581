use Rattle.std.proofs.Common.{drop}
use Rattle.mz_model.specs.Walks.{AreReadable, names_of}
use Rattle.mz_model.specs.Loops.{AreToCome}
use Rattle.mz_model.proofs.declarations.declare_each.Given as goal

abbrev pub invariant-loop-k : goal.invariant-loop-k
invariant-loop-k l = AreReadable l.names × AreToCome l.task l.fn.run l.run (names_of l.fn.names) (names_of l.names) l.all (drop l.k-index l.all)
