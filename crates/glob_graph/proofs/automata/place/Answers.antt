use Rattle.std.proofs.Common.{IfSome, arith, subst}
use Rattle.glob_nodes.proofs.Saying.{ok_so}
use Rattle.glob_nodes.proofs.Telling.{goes_less, goes_more}
use Rattle.glob_nodes.specs.Numbers.{IsNumber, plus}
use Rattle.glob_nodes.specs.Says.{num}
use Rattle.glob_graph.proofs.Letterwise.{place_later, place_of_sum}
use Rattle.glob_graph.proofs.automata.place.Goals as goal

pub returns-in_err-direct-clause-goes : goal.returns-in_err-direct-clause-goes
returns-in_err-direct-clause-goes c = goes_less 4 _ c.args.run.now c.sum_within.new.run (omega arith) c.sum_within.ensures.goes

pub returns-in-Some-clause-goes : goal.returns-in-Some-clause-goes
returns-in-Some-clause-goes c = goes_less 4 _ c.args.run.now c.sum_within.new.run (omega arith) c.sum_within.ensures.goes

pub returns-in-Some-clause-place : goal.returns-in-Some-clause-place
returns-in-Some-clause-place c = place_of_sum c.args.run.now c.sum_within.new.run c.args.m.now c.args.row c.args.x c.in-Some.id (subst (λ o. IfSome o (IsNumber c.args.run.now c.sum_within.new.run (λ r. plus (num r c.args.row) (num r c.args.x)))) c.in-Some.is c.in_ok-direct.ensures.sum)

pub returns-in-None-clause-goes : goal.returns-in-None-clause-goes
returns-in-None-clause-goes c = goes_more 4 52 _ c.args.run.now c.sum_within.new.run c.nearest_place.new.run (omega arith) c.in_ok-direct.ensures.goes c.nearest_place.ensures.goes

pub returns-in-None-clause-place : goal.returns-in-None-clause-place
returns-in-None-clause-place c = ok_so c.nearest_place.result c.nearest_place.ensures.place (λ id p. place_later c.args.run.now c.sum_within.new.run c.nearest_place.new.run c.args.m.now c.args.row c.args.x id c.in_ok-direct.ensures.same p)
