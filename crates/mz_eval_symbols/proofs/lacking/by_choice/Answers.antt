use Rattle.mz_eval_symbols.proofs.LackingLaws.{choice_lacks}
use Rattle.mz_eval_symbols.proofs.lacking.by_choice.Goals as goal

pub returns : goal.returns
returns c = choice_lacks c.args.nodes.now c.args.o c.args.x c.in-Some.q c.in-Some.ensures (c.is_same.ensures c.if-not-is_same.false)
