use Rattle.std.proofs.Common.{◌≡◌, drop}
use Rattle.fz_items.specs.Items.{index_at}
use Rattle.fz_items.proofs.value.dimensions.Given as goal

abbrev pub invariant-loop-range : goal.invariant-loop-range
invariant-loop-range l = index_at (drop l.range-index l.declared) l.rest ≡ index_at l.declared l.bytes
