use Rattle.std.proofs.Common.{Some}
use Rattle.glob_nodes.specs.declared.nodes.Compare.TheVariants.{Equal}
use Rattle.glob_nodes.specs.Says.{num, compares}
use Rattle.glob_nodes.proofs.Saying.{ok_so}
use Rattle.glob_nodes.proofs.IntegerNodes.{says_over_number}
use Rattle.glob_graph.proofs.circuits.is_first.Goals as goal

pub returns-clause-says : goal.returns-clause-says
returns-clause-says c = ok_so c.compared.result c.compared.ensures.says (λ id s. says_over_number c.args.run.now c.first_index.new.run c.compared.new.run (λ r. Some c.args.xs.now.first) (λ r t. compares Equal (num r c.args.x) t) c.in_ok-first.first id _ c.in_ok-first.ensures.is c.compared.ensures.goes s)
