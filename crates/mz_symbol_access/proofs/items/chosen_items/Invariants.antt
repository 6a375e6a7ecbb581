use Rattle.mz_symbol_access.specs.StepsChoose.{HasChosen}
use Rattle.mz_symbol_access.proofs.items.chosen_items.Given as goal

abbrev pub invariant-loop-i : goal.invariant-loop-i
invariant-loop-i l = HasChosen l.fn.run l.run l.c l.ps l.qs l.i l.all.items
