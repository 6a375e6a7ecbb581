use Rattle.std.proofs.Common.{slice_index_or}
use Rattle.flat_reif.specs.States.{state}
use Rattle.flat_root.proofs.Marking.{take_whole, index_there}
use Rattle.flat_root.proofs.Rooting.{posted_none, posted_here, posted_next, posted_all}
use Rattle.flat_root.proofs.posts.post_parts.Goals as goal

pub parts-init : goal.parts-init
parts-init c = posted_none (state c.args.flat.now) c.args.parts.now c.requires.ready c.requires.parts

pub post_part-requires-clause-ready : goal.post_part-requires-clause-ready
post_part-requires-clause-ready c = c.parts.invariant.leads.ready

pub post_part-requires-clause-part : goal.post_part-requires-clause-part
post_part-requires-clause-part c = posted_here (state c.args.flat.now) (state c.parts.flat) c.args.parts.now c.parts.id-index (slice_index_or c.args.parts.now c.parts.id-index 0) (index_there c.args.parts.now c.parts.id-index c.parts-test.true) c.parts.invariant

pub parts-preserved : goal.parts-preserved
parts-preserved c = posted_next (state c.args.flat.now) (state c.parts.flat) (state c.post_part.new.flat) c.args.parts.now c.parts.id-index (slice_index_or c.args.parts.now c.parts.id-index 0) c.requires.parts (index_there c.args.parts.now c.parts.id-index c.parts-test.true) c.parts.invariant c.in-Ok.ensures

pub returns : goal.returns
returns c = posted_all (state c.args.flat.now) (state c.parts.flat) c.args.parts.now c.parts.id-index (take_whole c.args.parts.now c.parts.id-index c.parts-test.false) c.parts.invariant
