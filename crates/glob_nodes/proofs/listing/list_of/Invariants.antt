use Rattle.std.proofs.Common.{◌*◌, ◌-◌, ◌≤◌, length, drop}
use Rattle.mz_symbol.specs.Symbols.{list_term}
use Rattle.glob_nodes.specs.StepsEach.{Given}
use Rattle.glob_nodes.proofs.listing.list_of.Given as goal

abbrev pub invariant-loop-k : goal.invariant-loop-k
invariant-loop-k l = Given (8 * (length l.items - l.k)) l.fn.run l.run (λ r. list_term r.term (drop l.k l.items)) l.acc × (l.k ≤ length l.items)

abbrev pub decreases-loop-k : goal.decreases-loop-k
decreases-loop-k l = l.k
