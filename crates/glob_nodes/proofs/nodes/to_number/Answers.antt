use Rattle.glob_nodes.proofs.Saying.{ok_so, number_gives}
use Rattle.glob_nodes.proofs.nodes.to_number.Goals as goal

pub returns-clause-gives : goal.returns-clause-gives
returns-clause-gives c = ok_so c.made.result c.made.ensures.gives (λ id g. number_gives c.args.run.now c.made.new.run c.args.a id g)
