use Rattle.std.proofs.Common.{◌≡◌, ◌++◌, map, drop}
use Rattle.mz_arena.specs.Instances.{model_var}
use Rattle.mz_instance.specs.Parts.{ids}
use Rattle.mz_model_state.proofs.ids.part_ids.Given as goal

abbrev pub invariant-loop-m : goal.invariant-loop-m
invariant-loop-m l = ids (map model_var l.vars) ≡ l.all.items ++ ids (map model_var (drop l.m-index l.vars))
