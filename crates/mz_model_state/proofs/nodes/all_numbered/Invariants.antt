use Rattle.mz_model_state.specs.StepsIds.{AreNumberedBelow}
use Rattle.mz_model_state.proofs.nodes.all_numbered.Given as goal

abbrev pub invariant-loop-id : goal.invariant-loop-id
invariant-loop-id l = AreNumberedBelow l.id l.arena l.vars l.choices
