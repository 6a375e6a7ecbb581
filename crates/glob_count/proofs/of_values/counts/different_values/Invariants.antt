use Rattle.std.proofs.Common.{◌≡◌, ◌+◌, ◌≤◌, drop}
use Rattle.mz_globals.specs.Counting.{different_values}
use Rattle.glob_count.proofs.of_values.counts.different_values.Given as goal

abbrev pub invariant-loop-k : goal.invariant-loop-k
invariant-loop-k l = (l.count + different_values (drop l.k l.xs) ≡ different_values l.xs) × (l.count ≤ l.k)
