use Rattle.std.proofs.Common.{◌≡◌, ◌≤◌, length, drop, map}
use Rattle.mz_meaning.specs.Chains.{before_all}
use Rattle.mz_eval_scopes.specs.Seen.{ctx_of}
use Rattle.mz_eval_chains.specs.Innermosts.{operator_of}
use Rattle.mz_eval_nodes.specs.Contexts.{later_all}
use Rattle.mz_eval_nodes.proofs.contexts.found_later.Given as goal

abbrev pub invariant-operators : goal.invariant-operators
invariant-operators l =
    (l.n ≤ length l.all)
    × (ctx_of l.next ≡ before_all (map operator_of (drop l.n l.all)))
    × (map ctx_of l.stack.items ≡ later_all (map operator_of (drop l.n l.all)))

abbrev pub decreases-operators : goal.decreases-operators
decreases-operators l = l.n
