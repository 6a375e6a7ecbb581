use Rattle.std.proofs.Common.{get_or}
use Rattle.fz_items.specs.Views.{elements}
use Rattle.soln_reader.specs.Views.{given}
use Rattle.soln_reader.proofs.Solutions.{fits_put, put_past, get_or_same}
use Rattle.soln_reader.proofs.block.put_at.Goals as goal

pub returns-then-slot-gs : goal.returns-then-slot-gs
returns-then-slot-gs c =
    fits_put given c.put.result c.args.slot (elements c.args.e) c.args.gs.now (get_or c.args.gs.now c.args.slot.shape c.index-gs-slot.result) c.put.new.self c.if-slot-gs.true (get_or_same c.args.gs.now c.args.slot.shape c.index-gs-slot.result c.if-slot-gs.true) c.put.ensures

pub returns-else-slot-gs : goal.returns-else-slot-gs
returns-else-slot-gs c = put_past given c.args.slot (elements c.args.e) c.args.gs.now c.if-slot-gs.false
