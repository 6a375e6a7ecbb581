use Rattle.std.proofs.Common.{◌≡◌, ◌++◌, drop}
use Rattle.std.specs.List.{flat_map}
use Rattle.mz_arena.specs.Instances.{model_var}
use Rattle.mz_instance.specs.Parts.{var_ids}
use Rattle.cases_instances.proofs.part.ids.Given as goal

abbrev pub invariant-vars : goal.invariant-vars
invariant-vars l = flat_map (λ m. var_ids (model_var m)) l.vars ≡ l.all.items ++ flat_map (λ m. var_ids (model_var m)) (drop l.m-index l.vars)
