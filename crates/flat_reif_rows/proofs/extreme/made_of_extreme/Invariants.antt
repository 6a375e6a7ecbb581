use Rattle.std.proofs.Common.{length}
use Rattle.fz_program.specs.Arguments.{plain, plains}
use Rattle.flat_reif_rows.proofs.Stepping.{SoFar}
use Rattle.flat_reif_rows.proofs.extreme.made_of_extreme.Given as goal

abbrev pub invariant-steps : goal.invariant-steps
invariant-steps l = SoFar l.fn.build l.build l.side (plains l.fn.items.items) l.rest.items (plain l.out)

abbrev pub decreases-steps : goal.decreases-steps
decreases-steps l = length l.rest.items
