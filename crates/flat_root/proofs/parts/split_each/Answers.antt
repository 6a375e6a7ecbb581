use Rattle.std.proofs.Common.{◌+◌, refl, slice_index_or, subst}
use Rattle.flat_root.specs.Parts.{AreSplitEach}
use Rattle.flat_root.proofs.Marking.{take_whole, index_there}
use Rattle.flat_root.proofs.Rooting.{each_begin, each_next, part_at}
use Rattle.flat_root.proofs.Turning.{before_next, nothing_met}
use Rattle.flat_root.proofs.parts.split_each.Goals as goal

pub nodes-init : goal.nodes-init
nodes-init c = (each_begin c.args.arena.now c.new-parts.result.items c.new-parts.ensures.items, nothing_met c.new-marks.result.items c.new-marks.ensures.items)

pub add_parts-requires-clause-part : goal.add_parts-requires-clause-part
add_parts-requires-clause-part c = part_at c.args.arena.now c.args.ids.now c.nodes.k (slice_index_or c.args.ids.now c.nodes.k 0) (index_there c.args.ids.now c.nodes.k c.nodes-test.true) c.requires

pub add_parts-requires-clause-marks : goal.add_parts-requires-clause-marks
add_parts-requires-clause-marks c = before_next c.nodes.marks.items c.nodes.k (c.nodes.k + 1) c.nodes.invariant.1 refl

pub nodes-preserved : goal.nodes-preserved
nodes-preserved c = (each_next c.args.arena.now c.args.ids.now c.nodes.k (slice_index_or c.args.ids.now c.nodes.k 0) c.nodes.parts.items c.add_parts.new.parts.items (index_there c.args.ids.now c.nodes.k c.nodes-test.true) c.nodes.invariant.0 c.in-Ok.ensures.added, c.in-Ok.ensures.marks)

pub returns : goal.returns
returns c = subst (λ is. AreSplitEach c.args.arena.now is c.nodes.parts.items) (take_whole c.args.ids.now c.nodes.k c.nodes-test.false) c.nodes.invariant.0
