use Rattle.std.proofs.Common.{take}
use Rattle.mz_model_state.specs.Placed.{ArePlaced}
use Rattle.mz_model_state.proofs.parts.test_places.Given as goal

abbrev pub invariant-loop-i : goal.invariant-loop-i
invariant-loop-i l = ArePlaced l.run l.number (take l.i l.places) l.next
