use Rattle.std.proofs.Common.{◌∙◌, Some, ap, rules}
use Rattle.std.proofs.lemmas.Int.{to_z-of_z}
use mir.Syntax.{w64}
use Rattle.mz_arena.specs.Values as terms
use Rattle.glob_nodes.proofs.Saying.{ok_so}
use Rattle.glob_nodes.proofs.Counting.{gives_like}
use Rattle.glob_graph.specs.Automata.{as_state}
use Rattle.glob_graph.proofs.automata.state.Goals as goal

pub returns-clause-gives : goal.returns-clause-gives
returns-clause-gives c = ok_so c.number.result c.number.ensures.gives (λ id g. gives_like c.args.run.now c.number.new.run _ (λ r. Some (terms.number (as_state c.args.m.now.states c.args.n))) id (λ r. ap (λ n. Some (terms.number n)) (to_z-of_z w64 c.as_state.result (search rules) ∙ c.as_state.ensures ∙ ap (as_state c.args.m.now.states) (to_z-of_z w64 c.args.n (search rules)))) g)
