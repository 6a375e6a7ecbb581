use Rattle.std.proofs.Common.{◌≡◌, drop}
use Rattle.mz_builtin.specs.Readings.{with_indices}
use Rattle.mz_builtin.proofs.choices.with_indices.Given as goal

abbrev pub invariant-loop-i : goal.invariant-loop-i
invariant-loop-i l = with_indices l.fn.all.items l.indices ≡ with_indices l.all.items (drop l.i-index l.indices)
