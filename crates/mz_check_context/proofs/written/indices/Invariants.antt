use Rattle.std.proofs.Common.{◌≡◌, [], map}
use Rattle.std.specs.Vec.Iter.{into_iter_items}
use Rattle.mz_check_meaning.specs.Tests.{loop, one_more}
use Rattle.mz_check_meaning.specs.WrittenTypes.{index}
use Rattle.mz_check_context.specs.Views.{typed_base, typed_index}
use Rattle.mz_check_context.proofs.written.indices.Given as goal

abbrev pub invariant-loop-b : goal.invariant-loop-b
invariant-loop-b l = loop (one_more (index l.span)) [] (map typed_base l.fn.dims.items) ≡ loop (one_more (index l.span)) (map typed_index l.all.items) (map typed_base (into_iter_items l.b-iterator))
