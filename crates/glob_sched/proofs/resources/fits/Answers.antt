use Rattle.glob_nodes.specs.declared.nodes.Compare.TheVariants.{AtMost}
use Rattle.glob_nodes.specs.Says.{num, compares}
use Rattle.glob_nodes.proofs.Saying.{ok_so}
use Rattle.glob_nodes.proofs.IntegerNodes.{says_over_number}
use Rattle.glob_sched.proofs.resources.fits.Goals as goal

pub returns-clause-says : goal.returns-clause-says
returns-clause-says c = ok_so c.compared.result c.compared.ensures.says (λ id s. says_over_number c.args.run.now c.summed.new.run c.compared.new.run _ (λ r t. compares AtMost t (num r c.args.b)) c.in_ok-used.used id _ c.in_ok-used.ensures.is c.compared.ensures.goes s)
