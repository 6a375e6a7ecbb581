use Rattle.std.proofs.Common.{◌≡◌, ◌++◌, map}
use Rattle.std.specs.List.{zip}
use Rattle.std.specs.Vec.Iter.{into_iter_items}
use Rattle.mz_core.specs.TreeViews.{tree, branch}
use Rattle.mz_check_forms.proofs.branches.paired.Given as goal

abbrev pub invariant-loop-c : goal.invariant-loop-c
invariant-loop-c l = zip (map tree l.fn.conds.items) (map tree l.fn.thens.items) ≡ map branch l.all.items ++ zip (map tree (into_iter_items l.c-iterator)) (map tree (into_iter_items l.rest))
