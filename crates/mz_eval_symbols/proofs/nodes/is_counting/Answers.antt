use Rattle.mz_eval_symbols.proofs.NodeLaws.{count_read}
use Rattle.mz_eval_symbols.proofs.nodes.is_counting.Goals as goal

pub returns-in-Some : goal.returns-in-Some
returns-in-Some c q t h = count_read c.args.nodes.now c.args.id c.in-Some.n c.in-Some.ensures (c.is_count_node.ensures q) t h
