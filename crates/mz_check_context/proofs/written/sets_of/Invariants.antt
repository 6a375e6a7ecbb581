use Rattle.std.proofs.Common.{◌≡◌, ◌++◌, map}
use Rattle.std.specs.Option.{option_map}
use Rattle.std.specs.Vec.Iter.{into_iter_items}
use Rattle.mz_core.specs.TreeViews.{tree}
use Rattle.mz_check_context.specs.Views.{typed_index}
use Rattle.mz_check_context.proofs.written.sets_of.Given as goal

abbrev pub invariant-loop-i : goal.invariant-loop-i
invariant-loop-i l = map (λ i. i.set) (map typed_index l.fn.indices.items) ≡ map (option_map tree) l.all.items ++ map (λ i. i.set) (map typed_index (into_iter_items l.i-iterator))
