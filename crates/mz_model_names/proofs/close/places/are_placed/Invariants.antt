use Rattle.mz_model_names.specs.Closed.{ArePlacedUpTo}
use Rattle.mz_model_names.proofs.close.places.are_placed.Given as goal

abbrev pub invariant-loop-h : goal.invariant-loop-h
invariant-loop-h l = ArePlacedUpTo l.run l.names l.h-index l.number
