use Rattle.std.proofs.Common.{◌-◌, length, take}
use Rattle.flat_root.specs.Parts.{AreSplitEach}
use Rattle.flat_root.specs.Turns.{AreUpTo}
use Rattle.flat_root.proofs.parts.split_each.Given as goal

abbrev pub invariant-nodes : goal.invariant-nodes
invariant-nodes l = AreSplitEach l.arena (take l.k l.ids) l.parts.items × AreUpTo l.marks.items l.k

abbrev pub decreases-nodes : goal.decreases-nodes
decreases-nodes l = length l.ids - l.k
