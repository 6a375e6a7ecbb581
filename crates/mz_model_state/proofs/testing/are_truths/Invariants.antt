use Rattle.mz_model_state.specs.StepsIds.{AreTruthsBelow}
use Rattle.mz_model_state.proofs.testing.are_truths.Given as goal

abbrev pub invariant-loop-i : goal.invariant-loop-i
invariant-loop-i l = AreTruthsBelow l.i l.arena l.roots
