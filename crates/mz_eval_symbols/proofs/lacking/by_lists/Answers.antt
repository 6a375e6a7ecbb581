use Rattle.mz_eval_symbols.proofs.LackingLaws.{lists_lack}
use Rattle.mz_eval_symbols.proofs.lacking.by_lists.Goals as goal

pub returns : goal.returns
returns c = lists_lack c.args.nodes.now c.args.o c.args.x c.in-Some.p c.in-Some-pair_at.q c.in-Some.ensures c.in-Some-pair_at.ensures (c.is_same.ensures c.if-not-is_same.false)
