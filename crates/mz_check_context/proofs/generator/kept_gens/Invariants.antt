use Rattle.std.proofs.Common.{◌≡◌, ◌++◌, map}
use Rattle.std.specs.Vec.Iter.{into_iter_items}
use Rattle.mz_core.specs.TreeViews.{gen}
use Rattle.mz_check_context.specs.Views.{typed_gen}
use Rattle.mz_check_context.proofs.generator.kept_gens.Given as goal

abbrev pub invariant-loop-g : goal.invariant-loop-g
invariant-loop-g l = map typed_gen l.fn.gs.items ≡ map gen l.all.items ++ map typed_gen (into_iter_items l.g-iterator)
