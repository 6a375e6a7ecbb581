use Rattle.glob_nodes.proofs.Saying.{ok_so}
use Rattle.glob_nodes.proofs.IntegerNodes.{sum_is}
use Rattle.glob_nodes.proofs.numbers.plus.Goals as goal

pub returns-clause-is : goal.returns-clause-is
returns-clause-is c = ok_so c.add.result c.add.ensures.gives (λ id g. sum_is c.args.run.now c.add.new.run c.args.a c.args.b id g)
