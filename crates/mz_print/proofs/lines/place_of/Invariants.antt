use Rattle.std.proofs.Common.{◌≡◌, drop}
use Rattle.mz_print.specs.Lines.{place_of}
use Rattle.mz_print.proofs.DefaultLines.{after_others}
use Rattle.mz_print.proofs.lines.place_of.Given as goal

abbrev pub invariant-loop-k : goal.invariant-loop-k
invariant-loop-k l = after_others l.k (place_of l.slot (drop l.k l.slots)) ≡ place_of l.slot l.slots
