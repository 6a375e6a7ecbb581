use Rattle.std.proofs.Common.{◌≡◌, drop, map}
use Rattle.mz_core.specs.TreeViews.{step}
use Rattle.mz_eval_chains.specs.Innermosts.{place_after}
use Rattle.mz_eval_chains.proofs.chains.place_after.Given as goal

abbrev pub invariant-loop-s : goal.invariant-loop-s
invariant-loop-s l = place_after l.fn.at (map step l.rest) ≡ place_after l.place (map step (drop l.s-index l.rest))
