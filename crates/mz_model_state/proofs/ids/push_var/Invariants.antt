use Rattle.std.proofs.Common.{◌≡◌, ◌++◌, map, drop}
use Rattle.mz_arena.specs.Instances.{var_cell}
use Rattle.mz_model_state.specs.StepsIds.{cells_ids}
use Rattle.mz_model_state.proofs.ids.push_var.Given as goal

abbrev pub invariant-loop-c : goal.invariant-loop-c
invariant-loop-c l = l.fn.all.items ++ cells_ids (map var_cell l.cells) ≡ l.all.items ++ cells_ids (map var_cell (drop l.c-index l.cells))
