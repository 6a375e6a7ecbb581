use Rattle.mz_scope_order.proofs.Walked.{file_goal, goal_none}
use Rattle.mz_scope_order.proofs.items.goal_of.Goals as goal

pub returns-in-Some : goal.returns-in-Some
returns-in-Some c = file_goal c.args.files.now c.loop-file.file-index c.file-item.result c.as_slice.result.now _ _ c.loop-file-test.true c.file-item.is c.as_slice.ensures.value c.in-Some.ensures c.loop-file.invariant

pub loop-file-preserved : goal.loop-file-preserved
loop-file-preserved c = file_goal c.args.files.now c.loop-file.file-index c.file-item.result c.as_slice.result.now _ _ c.loop-file-test.true c.file-item.is c.as_slice.ensures.value c.in_default.ensures c.loop-file.invariant

pub returns : goal.returns
returns c = goal_none c.args.files.now c.loop-file.file-index _ c.loop-file-test.false c.loop-file.invariant
