use Rattle.std.proofs.Common.{◌≡◌, ◌++◌, drop}
use Rattle.mz_meaning.specs.Arrays.{ranges_from}
use Rattle.mz_eval_declared.specs.Wants.{wants_of}
use Rattle.mz_eval_declared.proofs.ranges.declared_ranges.Given as goal

abbrev pub invariant-loop-k : goal.invariant-loop-k
invariant-loop-k l = l.ranges.items ++ ranges_from l.k (wants_of (drop l.k l.ws)) l.own ≡ ranges_from 0 (wants_of l.ws) l.own
