use Rattle.std.proofs.Common.{◌++◌, slice_index_or, subst, take}
use Rattle.flat_reif.specs.States.{state}
use Rattle.flat_root.specs.Totals.{Totals}
use Rattle.flat_root.proofs.Marking.{take_whole, index_there}
use Rattle.flat_root.proofs.Totaling.{totals_begin, totals_next, root_at, old_root_at}
use Rattle.flat_root.proofs.totals.totals.Goals as goal

pub roots-init : goal.roots-init
roots-init c = (totals_begin (state c.args.flat.now) (c.args.defined.now.items ++ c.args.terms.now.items) c.requires.ready c.requires.nothing, c.requires.memo)

pub add_total-requires-clause-ready : goal.add_total-requires-clause-ready
add_total-requires-clause-ready c = c.roots.invariant.0.ready

pub add_total-requires-clause-memo : goal.add_total-requires-clause-memo
add_total-requires-clause-memo c = c.roots.invariant.1

pub add_total-requires-clause-root : goal.add_total-requires-clause-root
add_total-requires-clause-root c = root_at (state c.args.flat.now) (state c.roots.flat) c.args.roots.now (c.roots.defined.items ++ c.roots.terms.items) (take c.roots.id-index c.args.roots.now) c.roots.id-index (slice_index_or c.args.roots.now c.roots.id-index 0) (index_there c.args.roots.now c.roots.id-index c.roots-test.true) c.requires.roots c.roots.invariant.0

pub roots-preserved : goal.roots-preserved
roots-preserved c = (totals_next (state c.args.flat.now) (state c.roots.flat) (state c.add_total.new.flat) c.args.roots.now c.roots.defined.items c.add_total.new.defined.items c.roots.terms.items c.add_total.new.terms.items c.roots.id-index (slice_index_or c.args.roots.now c.roots.id-index 0) (index_there c.args.roots.now c.roots.id-index c.roots-test.true) (old_root_at (state c.args.flat.now) c.args.roots.now c.roots.id-index (slice_index_or c.args.roots.now c.roots.id-index 0) (index_there c.args.roots.now c.roots.id-index c.roots-test.true) c.requires.roots) c.roots.invariant.0 c.in-Ok.ensures.added, c.in-Ok.ensures.memo)

pub returns-clause-totals : goal.returns-clause-totals
returns-clause-totals c = subst (λ is. Totals (state c.args.flat.now) (state c.roots.flat) is (c.roots.defined.items ++ c.roots.terms.items)) (take_whole c.args.roots.now c.roots.id-index c.roots-test.false) c.roots.invariant.0

pub returns-clause-memo : goal.returns-clause-memo
returns-clause-memo c = c.roots.invariant.1
