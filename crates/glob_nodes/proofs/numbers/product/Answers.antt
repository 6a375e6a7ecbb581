use Rattle.glob_nodes.proofs.Saying.{ok_so}
use Rattle.glob_nodes.proofs.IntegerNodes.{product_is}
use Rattle.glob_nodes.proofs.numbers.product.Goals as goal

pub returns-clause-is : goal.returns-clause-is
returns-clause-is c = ok_so c.multiply.result c.multiply.ensures.gives (λ id g. product_is c.args.run.now c.multiply.new.run c.args.a c.args.b id g)
