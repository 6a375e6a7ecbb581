-- A type that is above another is the join of the two.
use Rattle.std.proofs.Common.{◌≡◌, Bool, true, false, Some, refl, ap, sym}
use Rattle.mz_core.specs.Types.{PlainType}
use Rattle.mz_core.specs.Order.{below}
use Rattle.mz_core.specs.Join.{join}
use Rattle.mz_core.proofs.TypeLaws.{below_antisymm}

by_test : (t u : PlainType) (b : Bool) → below t u ≡ b → below u t ≡ true → join t u ≡ Some t
unfolding join
by_test t u true p h = rw p (ap Some (sym (below_antisymm t u p h)))
by_test t u false p h = rw (p, h) refl

pub join_above : (t u : PlainType) → below u t ≡ true → join t u ≡ Some t
join_above t u h = by_test t u (below t u) refl h
