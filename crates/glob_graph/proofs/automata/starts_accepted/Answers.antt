use Rattle.std.proofs.Common.{arith}
use Rattle.glob_nodes.proofs.Saying.{ok_so}
use Rattle.glob_nodes.proofs.Telling.{goes_less, goes_more}
use Rattle.glob_graph.proofs.Letterwise.{accepted_start}
use Rattle.glob_graph.proofs.automata.starts_accepted.Goals as goal

pub returns-in_err-start-clause-goes : goal.returns-in_err-start-clause-goes
returns-in_err-start-clause-goes c = goes_less 0 _ c.args.run.now c.first_state.new.run (omega arith) c.first_state.ensures.goes

pub returns-clause-goes : goal.returns-clause-goes
returns-clause-goes c = goes_more 0 18 _ c.args.run.now c.first_state.new.run c.is_final.new.run (omega arith) c.in_ok-start.ensures.goes c.is_final.ensures.goes

pub returns-clause-accepted : goal.returns-clause-accepted
returns-clause-accepted c = ok_so c.is_final.result c.is_final.ensures.says (λ id s. accepted_start c.args.run.now c.first_state.new.run c.is_final.new.run c.args.m.now c.args.ids.now c.in_ok-start.start id 18 c.requires c.in_ok-start.ensures.is c.is_final.ensures.goes s)
