use Rattle.std.proofs.Common.{◌≡◌, ◌-◌, suc, length, drop, map}
use Rattle.mz_globals.specs.Lists.{windows, windows_from}
use Rattle.mz_globals.specs.Givens.{first_outside, whole}
use Rattle.mz_eval_globals.proofs.apply.sums.windows_of.Given as goal

abbrev pub invariant-loop-k : goal.invariant-loop-k
invariant-loop-k l = first_outside (map whole (windows_from (suc (length l.es) - l.size - l.k) l.size (drop l.k l.es))) ≡ first_outside (map whole (windows l.size l.es))
