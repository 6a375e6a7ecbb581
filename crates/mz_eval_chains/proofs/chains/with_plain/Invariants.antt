use Rattle.std.proofs.Common.{◌≡◌, ◌++◌, drop, map}
use Rattle.mz_core.specs.TreeViews.{step}
use Rattle.mz_meaning.specs.Chains.{operators_at}
use Rattle.mz_eval_chains.specs.Innermosts.{operator_of}
use Rattle.mz_eval_chains.proofs.chains.with_plain.Given as goal

abbrev pub invariant-loop-s : goal.invariant-loop-s
invariant-loop-s l =
    map operator_of l.fn.all.items ++ operators_at l.at (map step l.rest)
    ≡ map operator_of l.all.items ++ operators_at l.at (map step (drop l.s-index l.rest))
