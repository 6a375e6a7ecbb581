use Rattle.mz_eval_symbols.proofs.NodeLaws.{if_read}
use Rattle.mz_eval_symbols.proofs.nodes.if_at.Goals as goal

pub returns-in-If : goal.returns-in-If
returns-in-If c = if_read c.args.nodes.now c.args.id c.in-Some.n c.in-Some.ensures c.in-If.is
