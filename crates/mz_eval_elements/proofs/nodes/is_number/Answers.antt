use Rattle.mz_eval_elements.proofs.LineLaws.{literal_read}
use Rattle.mz_eval_elements.proofs.nodes.is_number.Goals as goal

pub returns : goal.returns
returns c q t h = literal_read t c.args.nodes.now c.args.id c.node-node.result c.args.n.now c.node-node.ensures (c.has_number.ensures q) h
