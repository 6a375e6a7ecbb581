use Rattle.mz_scope_order.proofs.Gathering.{one_gathered, all_gathered}
use Rattle.mz_scope_order.proofs.places.names_in.Goals as goal

pub loop-o-preserved : goal.loop-o-preserved
loop-o-preserved c = one_gathered c.args.applied _ c.loop-o.places c.add_if.new.places c.args.sketches.now c.loop-o.o-index c.o-item.result c.loop-o.invariant c.loop-o-test.true c.o-item.is c.in_ok-add_if.ensures

pub returns : goal.returns
returns c = all_gathered c.args.applied _ c.loop-o.places c.args.sketches.now c.loop-o.o-index c.loop-o.invariant c.loop-o-test.false
