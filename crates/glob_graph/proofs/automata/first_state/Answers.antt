use Rattle.std.proofs.Common.{Some, ap, rules}
use Rattle.std.proofs.lemmas.Int.{to_z-of_z}
use mir.Syntax.{w64}
use Rattle.glob_nodes.proofs.Saying.{ok_so}
use Rattle.glob_nodes.proofs.IntegerNodes.{number_is, number_like}
use Rattle.glob_graph.specs.Automata.{as_state, first_state}
use Rattle.glob_graph.proofs.automata.first_state.Goals as goal

pub returns-clause-is : goal.returns-clause-is
returns-clause-is c = ok_so c.state.result c.state.ensures.gives (λ id g. number_like c.args.run.now c.state.new.run _ (λ r. first_state c.args.m.now) id (λ r. ap (λ n. Some (as_state c.args.m.now.states n)) (to_z-of_z w64 c.args.m.now.start (search rules))) (number_is c.args.run.now c.state.new.run _ id g))
