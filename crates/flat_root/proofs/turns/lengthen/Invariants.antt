use Rattle.std.proofs.Common.{◌≡◌, ℕ, ◌+◌, ◌-◌, length}
use Rattle.flat_root.specs.Turns.{turn_of}
use Rattle.flat_root.proofs.turns.lengthen.Given as goal

abbrev pub invariant-longer : goal.invariant-longer
invariant-longer l = (k : ℕ) → turn_of l.marks.items k ≡ turn_of l.fn.marks.items k

abbrev pub decreases-longer : goal.decreases-longer
decreases-longer l = (l.id + 1) - length l.marks.items
