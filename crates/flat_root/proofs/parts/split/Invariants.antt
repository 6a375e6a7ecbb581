use Rattle.flat_root.specs.Parts.{SplitSoFar, effort}
use Rattle.flat_root.specs.Turns.{AreUpTo, met_in}
use Rattle.flat_root.proofs.parts.split.Given as goal

abbrev pub invariant-next : goal.invariant-next
invariant-next l = SplitSoFar l.arena l.ids l.stack.items (met_in l.turn l.marks.items) l.parts.items × AreUpTo l.marks.items l.turn

abbrev pub decreases-next : goal.decreases-next
decreases-next l = effort l.arena l.stack.items (met_in l.turn l.marks.items)
