use Rattle.std.proofs.Common.{slice_index_or, subst}
use Rattle.flat_root.specs.Marks.{Covers}
use Rattle.flat_root.proofs.Marking.{covers_none, covers_next, take_whole, index_there}
use Rattle.flat_root.proofs.marks.add_all.Goals as goal

pub ids-init : goal.ids-init
ids-init c = covers_none c.args.need.now

pub ids-preserved : goal.ids-preserved
ids-preserved c = covers_next c.args.need.now c.ids.need c.add_one.new.need c.args.ids.now c.ids.id-index (slice_index_or c.args.ids.now c.ids.id-index 0) (index_there c.args.ids.now c.ids.id-index c.ids-test.true) c.ids.invariant c.in-Ok.ensures

pub returns : goal.returns
returns c = subst (Covers c.args.need.now c.ids.need) (take_whole c.args.ids.now c.ids.id-index c.ids-test.false) c.ids.invariant
