use Rattle.std.proofs.Common.{◌≡◌, ◌++◌, map, drop}
use Rattle.std.specs.Vec.Iter.{into_iter_items}
use Rattle.mz_core.specs.Types.{plain_type}
use Rattle.mz_core.specs.TreeViews.{tree}
use Rattle.mz_check_meaning.specs.Coerced.{all_coerced}
use Rattle.mz_check_forms.proofs.coerce.all_coerced.Given as goal

abbrev pub invariant-loop-e : goal.invariant-loop-e
invariant-loop-e l = all_coerced (map tree l.fn.es.items) (map plain_type l.ts) ≡ map tree l.all.items ++ all_coerced (map tree (into_iter_items l.e-iterator)) (map plain_type (drop l.i l.ts))
