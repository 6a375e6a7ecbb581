use Rattle.std.proofs.Common.{◌≡◌, length}
use Rattle.soln_reader.specs.StepsUndo.{undone}
use Rattle.soln_reader.specs.Views.{givens}
use Rattle.soln_reader.proofs.undo.clear_all.Given as goal

abbrev pub invariant-slots : goal.invariant-slots
invariant-slots l = undone l.slots.items (givens l.gs) ≡ undone l.initial.slots.items (givens l.initial.gs)

abbrev pub decreases-slots : goal.decreases-slots
decreases-slots l = length l.slots.items
