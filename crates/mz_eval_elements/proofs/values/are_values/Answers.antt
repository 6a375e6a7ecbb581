use Rattle.std.proofs.Common.{arith}
use Rattle.mz_eval_elements.proofs.LineLaws.{values_end, values_more}
use Rattle.mz_eval_elements.proofs.values.are_values.Goals as goal

pub loop-v-init : goal.loop-v-init
loop-v-init c t h m = m

pub loop-v-preserved : goal.loop-v-preserved
loop-v-preserved c t h m = c.loop-v.invariant t h (values_more t c.args.items.now c.loop-v.v-index c.v-item.result c.loop-v.rest.now c.in-Some.x.1.now c.in-Some.x.0.now c.loop-v-test.true c.v-item.is c.in-Some.ensures (c.differs.ensures c.if-differs.false t h) m)

pub returns : goal.returns
returns c q t h = c.loop-v.invariant t h (values_end t c.args.items.now c.loop-v.v-index c.loop-v.rest.now (omega (arith, c.loop-v-test.false, c.loop-v.auto.v-index-end)) (c.is_none.ensures q))
