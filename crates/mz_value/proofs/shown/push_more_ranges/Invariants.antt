use Rattle.std.proofs.Common.{◌≡◌, ◌++◌, take}
use Rattle.std.specs.String.{string_bytes}
use Rattle.mz_value.specs.Spelling.{spell}
use Rattle.mz_value.proofs.Listed.{ranges_after_commas}
use Rattle.mz_value.proofs.shown.push_more_ranges.Given as goal

abbrev pub invariant-loop-r : goal.invariant-loop-r
invariant-loop-r l = string_bytes l.out ≡ string_bytes l.fn.out ++ ranges_after_commas (spell l.s) (take l.r-index l.ranges)
