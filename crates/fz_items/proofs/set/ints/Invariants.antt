use Rattle.std.proofs.Common.{length}
use Rattle.fz_items.proofs.IntLists.{HasRead}
use Rattle.fz_items.proofs.set.ints.Given as goal

abbrev pub invariant-items : goal.invariant-items
invariant-items l = HasRead l.bytes l.items.items l.rest

abbrev pub decreases-items : goal.decreases-items
decreases-items l = length l.rest
