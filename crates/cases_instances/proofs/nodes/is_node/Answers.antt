use Rattle.cases_instances.specs.Seen.{part, sort_in}
use Rattle.cases_instances.proofs.Standing.{domain_there, variable_free, node_given}
use Rattle.cases_instances.proofs.nodes.is_node.Goals as goal

pub set-requires : goal.set-requires
set-requires c = domain_there c.args.arena.now c.args.id c.node-n.result c.len.ensures.arena c.node-n.ensures (variable_free c.args.arena.now c.args.id c.node-n.result c.len.ensures.arena c.node-n.ensures (sort_in c.args.p.now.sort) (c.is_variable.ensures c.if-not-is_variable.false))

pub returns-then-n-k : goal.returns-then-n-k
returns-then-n-k c = λ t. node_given c.args.arena.now c.args.id c.node-n.result c.len.ensures.arena c.node-n.ensures c.args.k (part c.args.p.now) c.set.result.now (c.is_variable.ensures c.if-not-is_variable.false) c.if-n-k.true c.set.ensures (c.is_same.ensures t)
