use Rattle.mz_eval_symbols.proofs.LackingLaws.{both_lacks}
use Rattle.mz_eval_symbols.proofs.lacking.by_both.Goals as goal

pub returns : goal.returns
returns c = both_lacks c.args.nodes.now c.args.o c.args.x c.in-Some.p c.in-Some.ensures
