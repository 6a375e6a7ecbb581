use Rattle.std.proofs.Common.{◌≡◌, ◌++◌}
use Rattle.std.specs.Prelude.{nat_abs, ◌-ℤ◌, ◌≤ℤ◌}
use Rattle.fz_text.proofs.Commas.{after}
use Rattle.fz_text.proofs.spell.push_numbers.Given as goal

abbrev pub invariant-loop-n : goal.invariant-loop-n
invariant-loop-n l = record {
  below : l.n ≤ℤ l.range.1;
  rest : l.out.items ++ after l.n l.range.1 ≡ l.initial.out.items ++ after l.range.0 l.range.1;
}

abbrev pub decreases-loop-n : goal.decreases-loop-n
decreases-loop-n l = nat_abs (l.range.1 -ℤ l.n)
