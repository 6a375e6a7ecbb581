use Rattle.mz_eval_rows.proofs.AssertedLaws.{condition_lacks, message_lacks}
use Rattle.mz_eval_rows.proofs.asserted.one_lacks.Goals as goal

pub returns-then-is_nothing : goal.returns-then-is_nothing
returns-then-is_nothing c h r = condition_lacks r c.args.cells.now c.in-Some.a.now c.in-Some.ensures (c.is_nothing.ensures c.if-is_nothing.true r)

pub returns : goal.returns
returns c h r = message_lacks r c.args.cells.now c.in-Some-nth.b.now c.in-Some-nth.ensures (c.is_nothing-2.ensures h r)
