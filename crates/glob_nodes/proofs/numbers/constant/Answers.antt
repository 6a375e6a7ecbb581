use Rattle.std.proofs.Common.{Some, ap, rules}
use Rattle.std.proofs.lemmas.Int.{to_z-of_z}
use mir.Syntax.{w64}
use Rattle.glob_nodes.proofs.Saying.{ok_so}
use Rattle.glob_nodes.proofs.IntegerNodes.{number_is, number_like}
use Rattle.glob_nodes.proofs.numbers.constant.Goals as goal

pub returns-clause-is : goal.returns-clause-is
returns-clause-is c = ok_so c.number.result c.number.ensures.gives (λ id g. number_like c.args.run.now c.number.new.run _ _ id (λ r. ap (λ n. Some n) (to_z-of_z w64 c.args.n (search rules))) (number_is c.args.run.now c.number.new.run _ id g))
