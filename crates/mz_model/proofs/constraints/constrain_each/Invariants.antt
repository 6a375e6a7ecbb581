use Rattle.std.proofs.Common.{drop, map}
use Rattle.mz_core.specs.TreeViews.{tree}
use Rattle.mz_model.specs.Walks.{names_of}
use Rattle.mz_model.specs.Loops.{AreInHand}
use Rattle.mz_model.proofs.constraints.constrain_each.Given as goal

abbrev pub invariant-loop-e : goal.invariant-loop-e
invariant-loop-e l = AreInHand l.task l.fn.run l.run (names_of l.names) (map tree l.all) l.cs.items (map tree (drop l.e-index l.all))
