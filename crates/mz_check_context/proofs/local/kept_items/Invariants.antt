use Rattle.std.proofs.Common.{◌≡◌, ◌++◌, map}
use Rattle.std.specs.Vec.Iter.{into_iter_items}
use Rattle.mz_core.specs.TreeViews.{item}
use Rattle.mz_check_context.specs.Views.{typed_item}
use Rattle.mz_check_context.proofs.local.kept_items.Given as goal

abbrev pub invariant-loop-i : goal.invariant-loop-i
invariant-loop-i l = map typed_item l.fn.is.items ≡ map item l.all.items ++ map typed_item (into_iter_items l.i-iterator)
