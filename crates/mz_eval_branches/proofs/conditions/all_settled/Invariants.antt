use Rattle.std.proofs.Common.{◌≡◌, map, take}
use Rattle.mz_symbol.specs.Readings.{Reading}
use Rattle.mz_eval_branches.specs.StepsConditions.{tested}
use Rattle.mz_eval_branches.proofs.conditions.all_settled.Given as goal

abbrev pub invariant-loop-p : goal.invariant-loop-p
invariant-loop-p l = (r : Reading) → map (tested r) l.made.items ≡ map (tested r) (take l.p-index l.branches)
