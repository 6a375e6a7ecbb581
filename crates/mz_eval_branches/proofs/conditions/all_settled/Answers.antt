use Rattle.std.proofs.Common.{◌∙◌, ap, map, arith, take_all}
use Rattle.mz_eval_branches.specs.StepsConditions.{tested}
use Rattle.mz_eval_branches.proofs.Settling.{settled_more}
use Rattle.mz_eval_branches.proofs.conditions.all_settled.Goals as goal

pub loop-p-init : goal.loop-p-init
loop-p-init c r = ap (map (tested r)) c.new-made.ensures.items

pub loop-p-preserved : goal.loop-p-preserved
loop-p-preserved c r = settled_more r c.args.branches.now c.loop-p.p-index c.p-item.result c.loop-p.made.items c.in_ok-made.made.items c.loop-p-test.true c.p-item.is (c.loop-p.invariant r) (c.in_ok-made.ensures r)

pub returns : goal.returns
returns c r = c.loop-p.invariant r ∙ ap (map (tested r)) (take_all c.loop-p.p-index c.args.branches.now (omega (arith, c.loop-p-test.false, c.loop-p.auto.p-index-end)))
