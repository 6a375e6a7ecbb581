use Rattle.std.proofs.Common.{◌≡◌, ◌++◌, ◌∷◌, [], map, vec_len}
use Rattle.mz_core.specs.Tree.{type_of}
use Rattle.mz_core.specs.TreeViews.{tree}
use Rattle.mz_check_meaning.specs.Chains.{from_right}
use Rattle.mz_check_calls.specs.Views.{operand, chained_back}
use Rattle.mz_check_calls.proofs.Preceding.{left_before}
use Rattle.mz_check_calls.proofs.chains.from_last.Given as goal

abbrev pub invariant-loop-left : goal.invariant-loop-left
invariant-loop-left l =
    from_right l.span (tree l.first) (map operand l.fn.operands.items ++ operand l.fn.last ∷ []) ≡ left_before l.span (type_of (tree l.first)) l.before.items l.right (chained_back l.acc)

abbrev pub decreases-loop-left : goal.decreases-loop-left
decreases-loop-left l = vec_len l.before
