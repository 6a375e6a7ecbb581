use Rattle.glob_nodes.proofs.Saying.{there_says}
use Rattle.glob_nodes.proofs.nodes.tested_there.Goals as goal

pub returns-clause-says : goal.returns-clause-says
returns-clause-says c = there_says c.args.run.now c.compared.new.run c.args.x c.in_ok-there.there c.in_ok-there.ensures.says
