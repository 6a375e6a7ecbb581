use Rattle.std.proofs.Common.{Some, ap, rules}
use Rattle.std.proofs.lemmas.Int.{to_z-of_z}
use mir.Syntax.{w64}
use Rattle.glob_nodes.proofs.Saying.{ok_so}
use Rattle.glob_nodes.proofs.IntegerNodes.{number_like}
use Rattle.glob_graph.proofs.automata.last_letter.Goals as goal

pub returns-clause-is : goal.returns-clause-is
returns-clause-is c = ok_so c.constant.result c.constant.ensures.is (λ id t. number_like c.args.run.now c.constant.new.run _ (λ r. Some c.args.m.now.letters) id (λ r. ap (λ n. Some n) (to_z-of_z w64 c.args.m.now.letters (search rules))) t)
