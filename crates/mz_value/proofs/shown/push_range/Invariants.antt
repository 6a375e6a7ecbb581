use Rattle.std.proofs.Common.{◌≡◌, ◌++◌, map}
use Rattle.std.specs.Prelude.{nat_abs, ◌-ℤ◌, ◌≤ℤ◌}
use Rattle.std.specs.String.{string_bytes}
use Rattle.mz_value.specs.Shown.{listed, range_elements}
use Rattle.mz_value.specs.Spelling.{spell}
use Rattle.mz_value.proofs.Listed.{above}
use Rattle.mz_value.proofs.shown.push_range.Given as goal

abbrev pub invariant-loop-n : goal.invariant-loop-n
invariant-loop-n l = record {
  low : l.range.0 ≤ℤ l.n;
  high : l.n ≤ℤ l.range.1;
  walk : string_bytes l.out ++ above (spell l.s) l.n l.range.1 ≡ string_bytes l.fn.out ++ listed (map (spell l.s) (range_elements l.range));
}

abbrev pub decreases-loop-n : goal.decreases-loop-n
decreases-loop-n l = nat_abs (l.range.1 -ℤ l.n)
