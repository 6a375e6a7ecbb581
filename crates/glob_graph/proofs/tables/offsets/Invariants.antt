use Rattle.std.proofs.Common.{◌≡◌, ◌++◌}
use Rattle.glob_graph.specs.Tables.{steps}
use Rattle.glob_graph.proofs.tables.offsets.Given as goal

abbrev pub invariant-loop-left : goal.invariant-loop-left
invariant-loop-left l = l.places.items ++ steps l.columns l.at l.left ≡ steps l.columns 0 l.count

abbrev pub decreases-loop-left : goal.decreases-loop-left
decreases-loop-left l = l.left
