use Rattle.std.proofs.Common.{Some, ap, rules}
use Rattle.std.proofs.lemmas.Int.{to_z-of_z}
use mir.Syntax.{w64}
use Rattle.glob_nodes.specs.declared.nodes.Compare.TheVariants.{AtMost}
use Rattle.glob_nodes.specs.Says.{num, compares}
use Rattle.glob_nodes.proofs.Saying.{ok_so}
use Rattle.glob_nodes.proofs.IntegerNodes.{number_like, says_over_number}
use Rattle.glob_nodes.proofs.ranges.is_before.Goals as goal

pub returns-clause-says : goal.returns-clause-says
returns-clause-says c = ok_so c.compared.result c.compared.ensures.says (λ id s. says_over_number c.args.run.now c.constant.new.run c.compared.new.run (λ r. Some c.args.xs.now.last) (λ r t. compares AtMost (num r c.args.x) t) c.in_ok-last.last id _ (number_like c.args.run.now c.constant.new.run _ (λ r. Some c.args.xs.now.last) c.in_ok-last.last (λ r. ap (λ n. Some n) (to_z-of_z w64 c.args.xs.now.last (search rules))) c.in_ok-last.ensures.is) c.compared.ensures.goes s)
