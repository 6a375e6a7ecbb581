use Rattle.mz_arena.specs.Values.{as_number}
use Rattle.glob_nodes.specs.declared.nodes.Compare.TheVariants.{Equal}
use Rattle.glob_nodes.specs.Says.{num, compares}
use Rattle.glob_nodes.proofs.Saying.{ok_so}
use Rattle.glob_order.proofs.Meanings.{says_over}
use Rattle.glob_order.proofs.extremes.extreme_equals.Goals as goal

pub returns-clause-says : goal.returns-clause-says
returns-clause-says c = ok_so c.compared.result c.compared.ensures.says (λ id s. says_over c.args.run.now c.extreme.new.run c.compared.new.run _ (λ r t. compares Equal (as_number t) (num r c.args.m)) c.in_ok-most.most id _ c.in_ok-most.ensures.gives c.compared.ensures.goes s)
