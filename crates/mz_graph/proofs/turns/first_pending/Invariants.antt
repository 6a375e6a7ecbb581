use Rattle.std.proofs.Common.{◌≡◌, ℕ, ◌<◌, ◌≤◌, true, slice_index_or}
use Rattle.mz_graph.specs.StepsTurns.{is_done}
use Rattle.mz_graph.proofs.turns.first_pending.Given as goal

abbrev pub invariant-loop-k : goal.invariant-loop-k
invariant-loop-k l = (j : ℕ) → l.from ≤ j → j < l.k → is_done l.done (slice_index_or l.heads j 0) ≡ true
