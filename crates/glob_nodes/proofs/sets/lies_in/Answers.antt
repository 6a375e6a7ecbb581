use Rattle.glob_nodes.proofs.Saying.{ok_so}
use Rattle.glob_nodes.proofs.SetNodes.{member_says}
use Rattle.glob_nodes.proofs.sets.lies_in.Goals as goal

pub returns-clause-says : goal.returns-clause-says
returns-clause-says c = ok_so c.made.result c.made.ensures.gives (λ id g. member_says c.args.run.now c.made.new.run c.args.x c.args.s id g)
