use Rattle.glob_nodes.proofs.Saying.{ok_so}
use Rattle.glob_nodes.proofs.nodes.product_node.Goals as goal

pub returns-clause-gives : goal.returns-clause-gives
returns-clause-gives c = ok_so c.made.result c.made.ensures.gives (λ id g. record { same = g.same; is = g.is })
