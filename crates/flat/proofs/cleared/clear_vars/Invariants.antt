use Rattle.std.proofs.Common.{map}
use Rattle.mz_arena.specs.Instances.{model_var}
use Rattle.flat_reif.specs.States.{state}
use Rattle.flat.proofs.Stepping.{vars_from}
use Rattle.flat.specs.Cleared.{all_value_parts}
use Rattle.flat.proofs.Clearing.{PartsLeft}
use Rattle.flat.proofs.cleared.clear_vars.Given as goal

abbrev pub invariant-vars : goal.invariant-vars
invariant-vars l = PartsLeft (state l.fn.flat) (state l.flat) (all_value_parts (map model_var l.vars)) (all_value_parts (vars_from l.m-index l.vars))
