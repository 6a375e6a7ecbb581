use Rattle.std.proofs.Common.{take}
use Rattle.mz_graph.specs.StepsSearch.{AreNumbered}
use Rattle.mz_graph.proofs.search.number_all.Given as goal

abbrev pub invariant-loop-x : goal.invariant-loop-x
invariant-loop-x l = AreNumbered l.fn.visits.items l.visits.items (take l.x-index l.nodes) l.number
