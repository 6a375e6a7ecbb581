use Rattle.glob_nodes.proofs.Saying.{ok_so}
use Rattle.glob_sets.proofs.Belonging.{part_says}
use Rattle.glob_sets.proofs.indices.is_part.Goals as goal

pub returns-clause-says : goal.returns-clause-says
returns-clause-says c = ok_so c.made.result c.made.ensures.gives (λ id g. part_says c.args.run.now c.made.new.run c.args.s c.args.of id g)
