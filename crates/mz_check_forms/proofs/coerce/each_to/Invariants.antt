use Rattle.std.proofs.Common.{◌≡◌, ◌++◌, map}
use Rattle.std.specs.Vec.Iter.{into_iter_items}
use Rattle.mz_core.specs.Types.{plain_type}
use Rattle.mz_core.specs.TreeViews.{tree}
use Rattle.mz_check_meaning.specs.Arrays.{each_to}
use Rattle.mz_check_forms.proofs.coerce.each_to.Given as goal

abbrev pub invariant-loop-e : goal.invariant-loop-e
invariant-loop-e l = each_to (plain_type l.t) (map tree l.fn.es.items) ≡ map tree l.all.items ++ each_to (plain_type l.t) (map tree (into_iter_items l.e-iterator))
