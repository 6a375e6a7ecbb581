use Rattle.mz_eval_symbols.proofs.NodeLaws.{nil_read}
use Rattle.mz_eval_symbols.proofs.nodes.is_nil.Goals as goal

pub returns-in-Some : goal.returns-in-Some
returns-in-Some c q t h = nil_read c.args.nodes.now c.args.id c.in-Some.n c.in-Some.ensures (c.is_nil_node.ensures q) t h
