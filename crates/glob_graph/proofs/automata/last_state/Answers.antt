use Rattle.std.proofs.Common.{◌+◌, ◌*◌, arith}
use Rattle.glob_nodes.proofs.Telling.{goes_less, goes_more}
use Rattle.glob_graph.proofs.Letterwise.{states_begin, states_go, states_end}
use Rattle.glob_graph.proofs.automata.last_state.Goals as goal

pub letters-init : goal.letters-init
letters-init c = states_begin c.args.run.now c.first_state.new.run c.args.m.now c.args.list c.in_ok-at.at c.args.ids.now c.in_ok-at.ensures.goes c.in_ok-at.ensures.is

pub letters-preserved : goal.letters-preserved
letters-preserved c = states_go c.args.run.now c.letters.run c.next_state.new.run c.args.m.now c.args.list c.letters.at c.in_ok-at-2.at c.letters.k (c.letters.k + 1) c.args.ids.now c.letters.invariant (omega (arith, c.letters-test.true)) (omega arith) c.in_ok-at-2.ensures.goes c.in_ok-at-2.ensures.next

pub returns-in_err-at-clause-goes : goal.returns-in_err-at-clause-goes
returns-in_err-at-clause-goes c = goes_less 0 _ c.args.run.now c.first_state.new.run (omega arith) c.first_state.ensures.goes

pub returns-in_err-at-2-clause-goes : goal.returns-in_err-at-2-clause-goes
returns-in_err-at-2-clause-goes c = goes_more (88 * c.letters.k) 88 _ c.args.run.now c.letters.run c.next_state.new.run (omega (arith, c.letters-test.true)) c.letters.invariant.goes c.next_state.ensures.goes

pub returns-clause-goes : goal.returns-clause-goes
returns-clause-goes c = goes_less (88 * c.letters.k) _ c.args.run.now c.letters.run (omega (arith, c.letters.invariant.low)) c.letters.invariant.goes

pub returns-clause-last : goal.returns-clause-last
returns-clause-last c = states_end c.args.run.now c.letters.run c.args.m.now c.args.list c.letters.at c.letters.k c.args.ids.now c.letters.invariant (omega (arith, c.letters-test.false))
