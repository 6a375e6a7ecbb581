use Rattle.std.proofs.Common.{◌≡◌}
use Rattle.mz_operations.specs.Numbers.{raised}
use Rattle.mz_builtin_values.proofs.powers.multiplied.Given as goal

abbrev pub invariant-loop-factor : goal.invariant-loop-factor
invariant-loop-factor l = l.acc ≡ raised l.x l._factor
