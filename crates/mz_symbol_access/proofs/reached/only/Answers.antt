use Rattle.mz_symbol_access.proofs.AloneLaws.{only_reaches, only_are}
use Rattle.mz_symbol_access.proofs.reached.only.Goals as goal

pub returns-clause-indices : goal.returns-clause-indices
returns-clause-indices c = only_are c.args.indices.now c.only_index-index.result c.only_index-index.ensures (c.is_index.ensures c.if-not-is_index.false)

pub returns-clause-reaches : goal.returns-clause-reaches
returns-clause-reaches c r h = only_reaches r c.args.run.now c.alone_node.new.run c.args.range.now c.args.indices.now c.only_index-index.result c.in_ok-id.id c.only_index-index.ensures (c.in_ok-id.ensures.alone r h)
