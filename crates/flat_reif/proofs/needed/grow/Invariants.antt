use Rattle.std.proofs.Common.{◌≡◌, ℕ, ◌+◌, ◌-◌, length}
use Rattle.flat_reif.specs.Needs.{is_needed}
use Rattle.flat_reif.proofs.needed.grow.Given as goal

abbrev pub invariant-longer : goal.invariant-longer
invariant-longer l = (k : ℕ) → is_needed l.marks.items k ≡ is_needed l.fn.marks.items k

abbrev pub decreases-longer : goal.decreases-longer
decreases-longer l = (l.id + 1) - length l.marks.items
