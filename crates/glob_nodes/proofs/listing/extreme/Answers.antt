use Rattle.std.proofs.Common.{subst}
use Rattle.mz_symbol.specs.Makes.{GoesOnBy}
use Rattle.glob_nodes.proofs.Saying.{ok_so}
use Rattle.glob_nodes.proofs.Counting.{extreme_gives}
use Rattle.glob_nodes.proofs.listing.extreme.Goals as goal

pub returns-clause-gives : goal.returns-clause-gives
returns-clause-gives c = ok_so c.made.result c.made.ensures.gives (λ id g. extreme_gives c.args.run.now c.list_of.new.run c.made.new.run c.args.side c.side_kind.result c.args.items.now c.in_ok-list.list id c.side_kind.ensures.kind (subst (λ n. GoesOnBy n c.list_of.new.run c.made.new.run) c.side_kind.ensures.charge c.made.ensures.goes) c.in_ok-list.ensures.gives g)
