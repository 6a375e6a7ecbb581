use Rattle.glob_nodes.proofs.Saying.{sure_says}
use Rattle.glob_nodes.proofs.nodes.sure_there.Goals as goal

pub returns-clause-says : goal.returns-clause-says
returns-clause-says c = sure_says c.args.run.now c.truth.new.run c.args.x c.in_ok-yes.yes c.in_ok-yes.ensures.says (λ r h. c.requires r.term (c.in_ok-yes.ensures.goes.back r h).nodes)
