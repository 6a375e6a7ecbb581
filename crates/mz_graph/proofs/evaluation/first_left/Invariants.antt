use Rattle.std.proofs.Common.{◌≡◌, ◌<◌, ℕ, take, true, false, get_or}
use Rattle.mz_graph.specs.StepsLayers.{AreMarks}
use Rattle.mz_graph.proofs.evaluation.first_left.Given as goal

abbrev pub invariant-loop-x : goal.invariant-loop-x
invariant-loop-x l = AreMarks l.count (take l.x-index l.order) l.marks.items

abbrev pub invariant-loop-d : goal.invariant-loop-d
invariant-loop-d l = (e : ℕ) → e < l.d → get_or l.marks.items e false ≡ true
