use Rattle.std.proofs.Common.{map}
use Rattle.mz_arena.specs.Instances.{model_var}
use Rattle.flat.proofs.Stepping.{vars_from}
use Rattle.flat.specs.Absent.{all_cells}
use Rattle.flat.proofs.Absenting.{VarsFixed}
use Rattle.flat.proofs.absent.fix_absent.Given as goal

abbrev pub invariant-vars : goal.invariant-vars
invariant-vars l = VarsFixed l.fn.arena l.arena (all_cells (map model_var l.vars)) (vars_from l.m-index l.vars) l.fn.roots.items l.roots.items
