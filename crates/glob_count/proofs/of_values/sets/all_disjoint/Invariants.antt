use Rattle.std.proofs.Common.{◌≡◌, drop, map}
use Rattle.mz_globals.specs.Counting.{all_disjoint}
use Rattle.glob_count.proofs.of_values.sets.all_disjoint.Given as goal

abbrev pub invariant-loop-k : goal.invariant-loop-k
invariant-loop-k l = all_disjoint (map (λ s. s.now) (drop l.k l.ss)) ≡ all_disjoint (map (λ s. s.now) l.ss)
