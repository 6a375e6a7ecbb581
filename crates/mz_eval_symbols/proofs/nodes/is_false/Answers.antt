use Rattle.mz_eval_symbols.proofs.NodeLaws.{false_read}
use Rattle.mz_eval_symbols.proofs.nodes.is_false.Goals as goal

pub returns-in-Some : goal.returns-in-Some
returns-in-Some c q t h = false_read c.args.nodes.now c.args.id c.in-Some.n c.in-Some.ensures (c.is_false_node.ensures.kind q) (c.is_false_node.ensures.number q) t h
