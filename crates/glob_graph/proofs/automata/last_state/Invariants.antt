use Rattle.std.proofs.Common.{◌-◌, length}
use Rattle.glob_graph.specs.Automata.{IsStateSoFar}
use Rattle.glob_graph.proofs.automata.last_state.Given as goal

abbrev pub invariant-letters : goal.invariant-letters
invariant-letters l = IsStateSoFar l.fn.run l.run l.m l.list l.ids l.k l.at

abbrev pub decreases-letters : goal.decreases-letters
decreases-letters l = length l.ids - l.k
