use Rattle.mz_eval_symbols.proofs.LackingLaws.{element_suffices}
use Rattle.mz_eval_symbols.proofs.lacking.by_element.Goals as goal

pub returns : goal.returns
returns c = element_suffices c.args.nodes.now c.args.o c.args.x c.in-Some.p c.by_lists.result c.in-Some.ensures (c.is_lost.ensures c.if-not-is_lost.false) c.by_lists.ensures
