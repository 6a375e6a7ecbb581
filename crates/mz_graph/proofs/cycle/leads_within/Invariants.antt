use Rattle.std.proofs.Common.{◌≡◌, ◌<◌, ℕ}
use Rattle.mz_graph.specs.Graph.{number_of}
use Rattle.mz_graph.proofs.cycle.leads_within.Given as goal

abbrev pub invariant-loop-y : goal.invariant-loop-y
invariant-loop-y l = (k : ℕ) → k < l.y-index → number_of l.of (number_of l.heads k) ≡ l.number → ⊥
