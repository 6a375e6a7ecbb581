use Rattle.glob_nodes.specs.Says.{num}
use Rattle.glob_nodes.proofs.Saying.{ok_so}
use Rattle.glob_count.specs.Senses.{counts_so}
use Rattle.glob_count.proofs.Meanings.{says_of}
use Rattle.glob_count.proofs.occurrences.occurs.Goals as goal

pub returns-clause-says : goal.returns-clause-says
returns-clause-says c = ok_so c.related.result c.related.ensures.says (λ id s. says_of c.args.run.now c.counted.new.run c.related.new.run _ (λ r o. counts_so c.args.relation (num r c.args.n) o) c.in_ok-count.count id _ c.in_ok-count.ensures.gives c.related.ensures.goes s)
