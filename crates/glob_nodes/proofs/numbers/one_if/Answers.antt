use Rattle.mz_arena.specs.Values.{is_true}
use Rattle.mz_operations.specs.Views.{number_of_bool}
use Rattle.glob_nodes.proofs.Saying.{ok_so}
use Rattle.glob_nodes.proofs.IntegerNodes.{number_is}
use Rattle.glob_nodes.proofs.numbers.one_if.Goals as goal

pub returns-clause-is : goal.returns-clause-is
returns-clause-is c = ok_so c.to_number.result c.to_number.ensures.gives (λ id g. number_is c.args.run.now c.to_number.new.run (λ r. number_of_bool (is_true (r.term c.args.a))) id g)
