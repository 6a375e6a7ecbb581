use Rattle.glob_nodes.proofs.Saying.{ok_so}
use Rattle.glob_sets.proofs.Apart.{apart_says}
use Rattle.glob_sets.proofs.disjoint.are_apart.Goals as goal

pub returns-clause-says : goal.returns-clause-says
returns-clause-says c = ok_so c.equal.result c.equal.ensures.says (λ id s. apart_says c.args.run.now c.made.new.run c.equal.new.run c.args.x c.args.y c.args.none c.in_ok-common.common id 6 c.in_ok-common.ensures.gives c.equal.ensures.goes s)
