use Rattle.glob_nodes.specs.declared.nodes.Compare.TheVariants.{Equal}
use Rattle.glob_nodes.specs.Says.{num, compares}
use Rattle.glob_nodes.proofs.Saying.{ok_so}
use Rattle.glob_count.proofs.Meanings.{says_of}
use Rattle.glob_count.proofs.memberships.among_are.Goals as goal

pub returns-clause-says : goal.returns-clause-says
returns-clause-says c = ok_so c.compared.result c.compared.ensures.says (λ id s. says_of c.args.run.now c.counted.new.run c.compared.new.run _ (λ r o. compares Equal o (num r c.args.n)) c.in_ok-count.count id _ c.in_ok-count.ensures.gives c.compared.ensures.goes s)
