use Rattle.std.proofs.Common.{◌≡◌, ◌++◌, map, drop}
use Rattle.std.specs.List.{flat_map}
use Rattle.mz_arena.specs.Instances.{model_var}
use Rattle.mz_instance.specs.Parts.{var_parts}
use Rattle.cases_instances.specs.Seen.{part}
use Rattle.cases_instances.proofs.part.parts.Given as goal

abbrev pub invariant-vars : goal.invariant-vars
invariant-vars l = flat_map (λ m. var_parts (model_var m)) l.vars ≡ map part l.all.items ++ flat_map (λ m. var_parts (model_var m)) (drop l.m-index l.vars)
