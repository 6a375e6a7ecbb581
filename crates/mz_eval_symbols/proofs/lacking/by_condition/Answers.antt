use Rattle.mz_eval_symbols.proofs.LackingLaws.{condition_lacks}
use Rattle.mz_eval_symbols.proofs.lacking.by_condition.Goals as goal

pub returns : goal.returns
returns c = condition_lacks c.args.nodes.now c.args.o c.args.x c.in-Some.p c.in-Some-if_at.q c.in-Some.ensures c.in-Some-if_at.ensures (c.is_same.ensures c.if-not-is_same.false)
