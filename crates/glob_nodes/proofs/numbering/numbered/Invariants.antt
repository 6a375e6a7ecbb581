use Rattle.std.proofs.Common.{◌-◌, length, drop}
use Rattle.glob_nodes.specs.Places.{AreNumberedSoFar}
use Rattle.glob_nodes.proofs.numbering.numbered.Given as goal

abbrev pub invariant-loop-k : goal.invariant-loop-k
invariant-loop-k l = AreNumberedSoFar l.fn.run l.run l.first l.index l.items (drop l.k l.items) l.ps.items

abbrev pub decreases-loop-k : goal.decreases-loop-k
decreases-loop-k l = length l.items - l.k
