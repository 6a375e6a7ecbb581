use Rattle.std.proofs.Common.{Some}
use Rattle.glob_nodes.specs.declared.nodes.Compare.TheVariants.{AtMost}
use Rattle.glob_nodes.specs.Says.{num, compares}
use Rattle.glob_nodes.proofs.Saying.{ok_so}
use Rattle.glob_nodes.proofs.IntegerNodes.{says_over_number}
use Rattle.glob_graph.proofs.automata.is_before.Goals as goal

pub returns-clause-says : goal.returns-clause-says
returns-clause-says c = ok_so c.compared.result c.compared.ensures.says (λ id s. says_over_number c.args.run.now c.last_letter.new.run c.compared.new.run (λ r. Some c.args.m.now.letters) (λ r t. compares AtMost (num r c.args.x) t) c.in_ok-last.last id _ c.in_ok-last.ensures.is c.compared.ensures.goes s)
