use Rattle.std.proofs.Common.{suc, ◌-◌, length}
use Rattle.mz_partial.specs.Totals.{Filled}
use Rattle.mz_partial.proofs.memo.fill.Given as goal

abbrev pub invariant-loop-alloc : goal.invariant-loop-alloc
invariant-loop-alloc l = Filled l.fn.arena l.arena (length l.fn.parts.items) l.parts.items

abbrev pub decreases-loop-alloc : goal.decreases-loop-alloc
decreases-loop-alloc l = suc l.id - length l.parts.items
