use Rattle.mz_graph.proofs.Numbering.{one_number_more, all_numbers}
use Rattle.mz_graph.proofs.components.numbers_of.Goals as goal

pub loop-visit-init : goal.loop-visit-init
loop-visit-init c = c.new-of.ensures.items

pub loop-visit-preserved : goal.loop-visit-preserved
loop-visit-preserved c = one_number_more c.loop-visit.of.items c.push.new.self.items c.args.visits.now c.loop-visit.visit-index c.number.result _ c.loop-visit-test.true c.loop-visit.invariant c.number.ensures c.in_ok-push.ensures.items

pub returns : goal.returns
returns c = all_numbers c.loop-visit.of.items c.args.visits.now c.loop-visit.visit-index c.loop-visit.invariant c.loop-visit-test.false
