use Rattle.std.proofs.Common.{◌≡◌, ◌+◌, ◌-◌}
use Rattle.mz_eval.proofs.top_call.levels_left.Given as goal

abbrev pub invariant-levels : goal.invariant-levels
invariant-levels l = (l.levels + (l.probe.limit - l.probe.nesting) ≡ l.depth.limit - l.depth.nesting) × (l.probe.limit ≡ l.depth.limit)

abbrev pub decreases-levels : goal.decreases-levels
decreases-levels l = l.probe.limit - l.probe.nesting
