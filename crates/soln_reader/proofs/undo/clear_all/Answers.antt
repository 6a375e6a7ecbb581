use Rattle.std.proofs.Common.{◌∙◌, ap, arith}
use Rattle.soln_reader.specs.Views.{givens}
use Rattle.soln_reader.specs.StepsUndo.{undone}
use Rattle.soln_reader.proofs.UndoLemmas.{undone_last, undone_none, none_there}
use Rattle.soln_reader.proofs.undo.clear_all.Goals as goal

pub slots-preserved : goal.slots-preserved
slots-preserved c =
    ap (undone c.pop.new.self.items) c.clear_at.ensures
    ∙ undone_last c.slots.slots.items c.pop.new.self.items c.in-Some.slot (givens c.slots.gs) _ c.in-Some.ensures.items c.slots.invariant

pub returns-in-None : goal.returns-in-None
returns-in-None c =
    undone_none c.slots.slots.items (givens c.slots.gs) _ (none_there c.slots.slots.items (omega (arith, c.in-None.ensures.cases.0, c.slots.slots.ok.0))) c.slots.invariant
