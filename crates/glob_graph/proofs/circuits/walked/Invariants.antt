use Rattle.std.proofs.Common.{◌*◌, ◌-◌, ◌≤◌, length}
use Rattle.mz_symbol.specs.Makes.{GoesOnBy}
use Rattle.glob_graph.specs.Walks.{IsWalked}
use Rattle.glob_graph.proofs.circuits.walked.Given as goal

abbrev pub invariant-steps : goal.invariant-steps
invariant-steps l = IsWalked l.fn.run l.run l.xs l.list l.walk.items l.at × (GoesOnBy (56 * length l.walk.items) l.fn.run l.run × (length l.walk.items ≤ length l.xs.items.items))

abbrev pub decreases-steps : goal.decreases-steps
decreases-steps l = length l.xs.items.items - length l.walk.items
