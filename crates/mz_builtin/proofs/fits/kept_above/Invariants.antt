use Rattle.std.proofs.Common.{◌≡◌, ◌++◌, map}
use Rattle.mz_core.specs.Types.{plain_type}
use Rattle.std.specs.Prelude.{filter}
use Rattle.std.specs.Vec.Iter.{into_iter_items}
use Rattle.mz_core.specs.Order.{below}
use Rattle.mz_builtin.proofs.fits.kept_above.Given as goal

abbrev pub invariant-loop-t : goal.invariant-loop-t
invariant-loop-t l = filter (below (plain_type l.a)) (map plain_type l.fn.types.items) ≡ map plain_type l.all.items ++ filter (below (plain_type l.a)) (map plain_type (into_iter_items l.t-iterator))
