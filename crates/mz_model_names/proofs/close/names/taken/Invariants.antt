use Rattle.std.proofs.Common.{map}
use Rattle.std.specs.Vec.Iter.{into_iter_items}
use Rattle.mz_model_names.specs.Named.{held_name}
use Rattle.mz_model_names.specs.Closed.{AreTakenSoFar}
use Rattle.mz_model_names.proofs.close.names.taken.Given as goal

abbrev pub invariant-loop-h : goal.invariant-loop-h
invariant-loop-h l = AreTakenSoFar (map held_name l.fn.names.items) (map held_name (into_iter_items l.h-iterator)) l.all
