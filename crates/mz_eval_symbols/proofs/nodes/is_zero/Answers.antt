use Rattle.mz_eval_symbols.proofs.NodeLaws.{zero_counts}
use Rattle.mz_eval_symbols.proofs.nodes.is_zero.Goals as goal

pub returns-in-Some : goal.returns-in-Some
returns-in-Some c q t h = zero_counts c.args.nodes.now c.args.id c.in-Some.n c.in-Some.ensures (c.is_zero_node.ensures.kind q) (c.is_zero_node.ensures.number q) t h
