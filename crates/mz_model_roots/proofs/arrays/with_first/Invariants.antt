use Rattle.std.proofs.Common.{◌≡◌, ◌∷◌, ◌++◌}
use Rattle.std.specs.Vec.Iter.{into_iter_items}
use Rattle.mz_model_roots.proofs.arrays.with_first.Given as goal

abbrev pub invariant-loop-id : goal.invariant-loop-id
invariant-loop-id l = l.first ∷ l.fn.rest.items ≡ l.all.items ++ into_iter_items l.id-iterator
