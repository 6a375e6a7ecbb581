use Rattle.glob_nodes.proofs.Saying.{ok_so}
use Rattle.glob_count.proofs.Functions.{where_gives}
use Rattle.glob_count.proofs.occurrences.where_both.Goals as goal

pub returns-clause-gives : goal.returns-clause-gives
returns-clause-gives c = ok_so c.made.result c.made.ensures.gives (λ id g. where_gives c.args.run.now c.truth.new.run c.where_number_array.new.run c.made.new.run c.args.y c.args.xs.now.defined c.args.count c.in_ok-yes.yes c.in_ok-there.there id _ _ c.in_ok-yes.ensures.says c.in_ok-there.ensures.goes c.in_ok-there.ensures.says c.made.ensures.goes g)
