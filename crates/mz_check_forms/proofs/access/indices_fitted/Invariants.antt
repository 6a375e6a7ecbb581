use Rattle.std.proofs.Common.{◌≡◌, [], map, drop}
use Rattle.std.specs.List.{zip}
use Rattle.std.specs.Vec.Iter.{into_iter_items}
use Rattle.mz_core.specs.TreeViews.{tree}
use Rattle.mz_check_meaning.specs.Tests.{loop, one_more}
use Rattle.mz_check_meaning.specs.Arrays.{index_pair}
use Rattle.mz_check_forms.proofs.access.indices_fitted.Given as goal

abbrev pub invariant-loop-e : goal.invariant-loop-e
invariant-loop-e l = loop (one_more (index_pair l.span)) [] (zip (map tree l.fn.es.items) l.xs) ≡ loop (one_more (index_pair l.span)) (map tree l.all.items) (zip (map tree (into_iter_items l.e-iterator)) (drop l.i l.xs))
