use Rattle.std.proofs.Common.{get_or}
use Rattle.soln_reader.specs.Views.{given}
use Rattle.soln_reader.proofs.Solutions.{get_or_same}
use Rattle.soln_reader.proofs.UndoLemmas.{clears_at}
use Rattle.soln_reader.proofs.undo.clear_at.Goals as goal

pub returns-then-slot-gs : goal.returns-then-slot-gs
returns-then-slot-gs c =
    clears_at given c.args.slot c.args.gs.now (get_or c.args.gs.now c.args.slot.shape c.index-gs-slot.result) c.clear.new.self c.if-slot-gs.true (get_or_same c.args.gs.now c.args.slot.shape c.index-gs-slot.result c.if-slot-gs.true) c.clear.ensures
