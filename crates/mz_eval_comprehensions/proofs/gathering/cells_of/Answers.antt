use Rattle.std.proofs.Common.{arith}
use Rattle.mz_eval_cells.specs.Views.{all_seen}
use Rattle.mz_eval_comprehensions.proofs.GatherLaws.{all_copied, one_more}
use Rattle.mz_eval_comprehensions.proofs.gathering.cells_of.Goals as goal

pub loop-x-preserved : goal.loop-x-preserved
loop-x-preserved c r = one_more (all_seen r c.loop-x.all.items) c.args.items.now c.loop-x.x-index c.x-item.result _ c.loop-x-test.true c.x-item.is (c.loop-x.invariant r) (c.in_ok-all.ensures r)

pub returns : goal.returns
returns c r = all_copied (all_seen r c.loop-x.all.items) c.args.items.now c.loop-x.x-index (omega (arith, c.loop-x-test.false)) (c.loop-x.invariant r)
