use Rattle.glob_nodes.proofs.Saying.{ok_so}
use Rattle.glob_sets.proofs.Belonging.{among_says}
use Rattle.glob_sets.proofs.indices.lies_among.Goals as goal

pub returns-clause-says : goal.returns-clause-says
returns-clause-says c = ok_so c.is_part.result c.is_part.ensures.says (λ id s. among_says c.args.run.now c.index_node.new.run c.is_part.new.run (c.args.xs.now.first, c.args.xs.now.last) c.args.s c.in_ok-places.places id 6 c.in_ok-places.ensures.gives c.is_part.ensures.goes s)
