use Rattle.std.proofs.Common.{◌≡◌}
use Rattle.mz_operations.specs.Bounds.{raised_ends}
use Rattle.mz_operations_bounds.proofs.powers.multiplied.Given as goal

abbrev pub invariant-loop-factor : goal.invariant-loop-factor
invariant-loop-factor l = l.acc ≡ raised_ends l.e l._factor
