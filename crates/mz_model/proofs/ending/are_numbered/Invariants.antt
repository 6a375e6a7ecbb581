use Rattle.mz_model.specs.Ending.{AreNumberedFrom}
use Rattle.mz_model.proofs.ending.are_numbered.Given as goal

abbrev pub invariant-loop-i : goal.invariant-loop-i
invariant-loop-i l = AreNumberedFrom l.names l.i
