use Rattle.fz_items.proofs.IntLists.{fails_along}
use Rattle.fz_items.proofs.Loops.{index_step, index_fails, index_ends}
use Rattle.fz_items.proofs.value.dimensions.Goals as goal

pub returns-in-Err : goal.returns-in-Err
returns-in-Err c =
    fails_along c.in-Err.miss _ _ c.in-Err.ensures
    (index_fails c.args.declared.now c.loop-range.range-index _ c.loop-range.rest.now _ c.loop-range-test.true c.loop-range.invariant)

pub loop-range-preserved : goal.loop-range-preserved
loop-range-preserved c =
    index_step c.args.declared.now c.loop-range.range-index _ c.loop-range.rest.now c.in-Ok.behind.now _ c.loop-range-test.true c.in-Ok.ensures c.loop-range.invariant

pub returns : goal.returns
returns c = index_ends c.args.declared.now c.loop-range.range-index c.loop-range.rest.now _ c.loop-range-test.false c.loop-range.invariant
