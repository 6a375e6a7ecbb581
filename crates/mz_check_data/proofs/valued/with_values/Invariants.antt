use Rattle.std.proofs.Common.{◌≡◌, map}
use Rattle.std.specs.Vec.Iter.{into_iter_items}
use Rattle.mz_core.specs.TreeViews.{decl}
use Rattle.mz_check_data.specs.Views.{typed_item}
use Rattle.mz_check_data.specs.WithData.{with_value, AreNumbered}
use Rattle.mz_check_data.proofs.valued.with_values.Given as goal

abbrev pub invariant-loop-v : goal.invariant-loop-v
invariant-loop-v l =
    AreNumbered (map decl l.all.items) × (map (with_value (map typed_item l.fn.values.items)) (map decl l.fn.decls.items) ≡ map (with_value (map typed_item (into_iter_items l.v-iterator))) (map decl l.all.items))
