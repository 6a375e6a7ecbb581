use Rattle.mz_symbol_access.specs.StepsChoose.{HasLifted}
use Rattle.mz_symbol_access.proofs.lifting.lifted_items.Given as goal

abbrev pub invariant-loop-i : goal.invariant-loop-i
invariant-loop-i l = HasLifted l.fn.run l.run l.items l.i l.all.items
