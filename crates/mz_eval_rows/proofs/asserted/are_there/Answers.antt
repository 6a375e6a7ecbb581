use Rattle.mz_eval_rows.proofs.AssertedLaws.{third_told}
use Rattle.mz_eval_rows.proofs.asserted.are_there.Goals as goal

pub returns : goal.returns
returns c h r = third_told r c.args.cells.now c.in-Some.a.now c.in-Some-nth.b.now c.in-Some.ensures c.in-Some-nth.ensures (c.is_truth.ensures c.if-not-is_truth.false r) (c.is_text.ensures h r)
