use Rattle.std.proofs.Common.{Some, ap, rules}
use Rattle.std.proofs.lemmas.Int.{to_z-of_z}
use mir.Syntax.{w64}
use Rattle.mz_arena.specs.Values.{cons_term}
use Rattle.mz_arena.specs.Values as terms
use Rattle.glob_nodes.proofs.Saying.{ok_so}
use Rattle.glob_nodes.proofs.Counting.{gives_like}
use Rattle.glob_graph.specs.Automata.{as_state}
use Rattle.glob_graph.proofs.Letterwise.{gives_then}
use Rattle.glob_graph.proofs.automata.before.Goals as goal

pub returns-clause-gives : goal.returns-clause-gives
returns-clause-gives c = ok_so c.made.result c.made.ensures.gives (λ id g. gives_then c.args.run.now c.state.new.run c.made.new.run (λ r. Some (terms.number (as_state c.args.m.now.states c.args.n))) (λ r t. cons_term t (r.term c.args.list)) c.in_ok-step.step id _ (gives_like c.args.run.now c.state.new.run _ _ c.in_ok-step.step (λ r. ap (λ n. Some (terms.number (as_state c.args.m.now.states n))) (to_z-of_z w64 c.args.n (search rules))) c.in_ok-step.ensures.gives) c.made.ensures.goes g)
