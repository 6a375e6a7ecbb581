use Rattle.std.proofs.Common.{◌≡◌, [], map}
use Rattle.std.specs.Vec.Iter.{into_iter_items}
use Rattle.mz_core.specs.TreeViews.{tree}
use Rattle.mz_check_meaning.specs.Tests.{loop, one_more}
use Rattle.mz_check_meaning.specs.Coerced.{condition}
use Rattle.mz_check_forms.proofs.branches.conditions.Given as goal

abbrev pub invariant-loop-e : goal.invariant-loop-e
invariant-loop-e l = loop (one_more condition) [] (map tree l.fn.es.items) ≡ loop (one_more condition) (map tree l.all.items) (map tree (into_iter_items l.e-iterator))
