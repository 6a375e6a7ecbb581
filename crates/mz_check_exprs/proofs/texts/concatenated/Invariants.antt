use Rattle.std.proofs.Common.{◌≡◌, ◌++◌, map}
use Rattle.std.specs.Vec.Iter.{into_iter_items}
use Rattle.mz_core.specs.TreeViews.{tree}
use Rattle.mz_check_meaning.specs.Forms.{next_piece}
use Rattle.mz_check_calls.specs.Views.{operand}
use Rattle.mz_check_exprs.proofs.texts.concatenated.Given as goal

abbrev pub invariant-loop-e : goal.invariant-loop-e
invariant-loop-e l = map next_piece (map tree l.fn.es.items) ≡ map operand l.all.items ++ map next_piece (map tree (into_iter_items l.e-iterator))
