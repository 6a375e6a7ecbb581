use Rattle.mz_scope_order.proofs.Walked.{goal_here, goal_later, goal_nowhere}
use Rattle.mz_scope_order.proofs.items.first_goal.Goals as goal

pub returns-in-Some : goal.returns-in-Some
returns-in-Some c = goal_here c.args.items.now c.loop-item.item-index c.item-item.result _ _ c.loop-item-test.true c.item-item.is c.in-Some.ensures c.loop-item.invariant

pub loop-item-preserved : goal.loop-item-preserved
loop-item-preserved c = goal_later c.args.items.now c.loop-item.item-index c.item-item.result _ c.loop-item-test.true c.item-item.is c.in_default.ensures c.loop-item.invariant

pub returns : goal.returns
returns c = goal_nowhere c.args.items.now c.loop-item.item-index _ c.loop-item-test.false c.loop-item.invariant
