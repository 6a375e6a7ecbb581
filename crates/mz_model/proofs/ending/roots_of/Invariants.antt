use Rattle.std.proofs.Common.{◌≡◌, ◌++◌, map, drop}
use Rattle.mz_model_state.specs.Hands.{constraint_roots}
use Rattle.mz_model.specs.Walks.{held_constraint}
use Rattle.mz_model.proofs.ending.roots_of.Given as goal

abbrev pub invariant-loop-c : goal.invariant-loop-c
invariant-loop-c l = constraint_roots (map held_constraint l.cs) ≡ l.all.items ++ constraint_roots (map held_constraint (drop l.c-index l.cs))
