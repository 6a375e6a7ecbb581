use Rattle.std.proofs.Common.{◌≡◌, [], map}
use Rattle.std.specs.Vec.Iter.{into_iter_items}
use Rattle.mz_check_meaning.specs.Tests.{loop, one_more}
use Rattle.mz_check_meaning.specs.Lets.{item_fitted}
use Rattle.mz_check_context.specs.Views.{typed_item}
use Rattle.mz_check_context.proofs.local.items_fitted.Given as goal

abbrev pub invariant-loop-i : goal.invariant-loop-i
invariant-loop-i l = loop (one_more item_fitted) [] (map typed_item l.fn.is.items) ≡ loop (one_more item_fitted) (map typed_item l.all.items) (map typed_item (into_iter_items l.i-iterator))
