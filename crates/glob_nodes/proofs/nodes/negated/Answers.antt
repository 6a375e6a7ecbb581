use Rattle.glob_nodes.proofs.Saying.{ok_so, not_says}
use Rattle.glob_nodes.proofs.nodes.negated.Goals as goal

pub returns-clause-says : goal.returns-clause-says
returns-clause-says c = ok_so c.made.result c.made.ensures.gives (λ id g. not_says c.args.run.now c.made.new.run c.args.a id g)
