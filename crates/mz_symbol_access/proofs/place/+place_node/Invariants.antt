use Rattle.std.proofs.Common.{length}
use Rattle.mz_symbol_access.proofs.place.+place_node.Given as goal

abbrev pub decreases-place_node : goal.decreases-place_node
decreases-place_node l = length l.ranges.now
