use Rattle.glob_nodes.proofs.Saying.{ok_so, compare_says}
use Rattle.glob_nodes.proofs.nodes.compared_node.Goals as goal

pub returns-clause-says : goal.returns-clause-says
returns-clause-says c = ok_so c.made.result c.made.ensures.gives (λ id g. compare_says c.args.run.now c.made.new.run c.args.op c.compare_kind.result c.args.a c.args.b id c.compare_kind.ensures.kind g)
