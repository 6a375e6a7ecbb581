use Rattle.glob_nodes.proofs.Saying.{ok_so}
use Rattle.glob_graph.proofs.Letterwise.{place_of_near}
use Rattle.glob_graph.proofs.automata.nearest_place.Goals as goal

pub returns-clause-place : goal.returns-clause-place
returns-clause-place c = ok_so c.plus.result c.plus.ensures.is (λ id t. place_of_near c.args.run.now c.nearest.new.run c.plus.new.run c.args.m.now c.args.row c.args.x c.in_ok-near.near id _ c.in_ok-near.ensures.near c.plus.ensures.goes t)
