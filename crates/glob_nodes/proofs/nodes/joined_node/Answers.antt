use Rattle.glob_nodes.proofs.Saying.{ok_so, join_says}
use Rattle.glob_nodes.proofs.nodes.joined_node.Goals as goal

pub returns-clause-says : goal.returns-clause-says
returns-clause-says c = ok_so c.made.result c.made.ensures.gives (λ id g. join_says c.args.run.now c.made.new.run c.args.op c.join_kind.result c.args.a c.args.b id c.join_kind.ensures.kind g)
