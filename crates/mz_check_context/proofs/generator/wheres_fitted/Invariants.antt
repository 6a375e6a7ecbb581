use Rattle.std.proofs.Common.{◌≡◌, [], map}
use Rattle.std.specs.Vec.Iter.{into_iter_items}
use Rattle.mz_check_meaning.specs.Tests.{loop, one_more}
use Rattle.mz_check_meaning.specs.Comprehensions.{where_fitted}
use Rattle.mz_check_context.specs.Views.{typed_gen}
use Rattle.mz_check_context.proofs.generator.wheres_fitted.Given as goal

abbrev pub invariant-loop-g : goal.invariant-loop-g
invariant-loop-g l = loop (one_more where_fitted) [] (map typed_gen l.fn.gs.items) ≡ loop (one_more where_fitted) (map typed_gen l.all.items) (map typed_gen (into_iter_items l.g-iterator))
