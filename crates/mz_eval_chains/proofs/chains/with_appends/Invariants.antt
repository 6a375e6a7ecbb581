use Rattle.std.proofs.Common.{◌≡◌, ◌++◌, drop, map}
use Rattle.mz_core.specs.TreeViews.{step}
use Rattle.mz_eval_chains.specs.Innermosts.{operator_of, appends_at}
use Rattle.mz_eval_chains.proofs.chains.with_appends.Given as goal

abbrev pub invariant-loop-s : goal.invariant-loop-s
invariant-loop-s l =
    map operator_of l.fn.all.items ++ appends_at l.fn.at (map step l.rest)
    ≡ map operator_of l.all.items ++ appends_at l.place (map step (drop l.s-index l.rest))
