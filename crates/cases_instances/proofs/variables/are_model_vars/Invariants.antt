use Rattle.std.proofs.Common.{map, length}
use Rattle.mz_arena.specs.Instances.{model_var}
use Rattle.mz_instance.specs.Instance.{AreModelVars}
use Rattle.cases_instances.proofs.variables.are_model_vars.Given as goal

abbrev pub invariant-loop-rest : goal.invariant-loop-rest
invariant-loop-rest l = AreModelVars (map model_var l.rest) → AreModelVars (map model_var l.vars)

abbrev pub decreases-loop-rest : goal.decreases-loop-rest
decreases-loop-rest l = length l.rest
