use Rattle.std.proofs.Common.{◌≡◌, ◌≤◌, drop, length}
use Rattle.mz_globals.specs.Givens.{first_outside, sums_of}
use Rattle.mz_eval_globals.proofs.apply.sums.sums_outside.Given as goal

abbrev pub invariant-loop-k : goal.invariant-loop-k
invariant-loop-k l = (l.k ≤ length l.fs) × (first_outside (sums_of (drop l.k l.es) (drop l.k l.fs)) ≡ first_outside (sums_of l.es l.fs))
