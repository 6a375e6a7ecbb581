use Rattle.std.proofs.Common.{◌≡◌, take, map}
use Rattle.mz_graph.specs.StepsSearch.{number}
use Rattle.mz_graph.proofs.components.numbers_of.Given as goal

abbrev pub invariant-loop-visit : goal.invariant-loop-visit
invariant-loop-visit l = l.of.items ≡ map number (take l.visit-index l.visits)
