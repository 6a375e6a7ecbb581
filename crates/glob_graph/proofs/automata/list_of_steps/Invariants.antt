use Rattle.std.proofs.Common.{◌*◌, ◌-◌, ◌≤◌, length, drop, map}
use Rattle.glob_nodes.specs.StepsEach.{Given}
use Rattle.glob_graph.specs.Automata.{as_state}
use Rattle.glob_graph.specs.Walks.{values_list}
use Rattle.glob_graph.proofs.automata.list_of_steps.Given as goal

abbrev pub invariant-loop-k : goal.invariant-loop-k
invariant-loop-k l = Given (8 * (length l.cells - l.k)) l.fn.run l.run (λ r. values_list (map (as_state l.m.states) (drop l.k l.cells))) l.acc × (l.k ≤ length l.cells)

abbrev pub decreases-loop-k : goal.decreases-loop-k
decreases-loop-k l = l.k
