use Rattle.std.proofs.Common.{arith, sym, ◌∙◌}
use Rattle.std.proofs.lemmas.Int.{ints, clamps}
use Rattle.std.specs.Prelude.{neg_ℤ}
use Rattle.std.specs.Int.{int_max}
use Rattle.mz_operations.specs.Bounds.{least_magnitude}
use Rattle.mz_operations_bounds.proofs.Pairs.{pair, pair_same, magnitude_is}
use Rattle.mz_operations_bounds.proofs.ends.magnitude.Goals as goal

pub returns : goal.returns
returns c =
    let e = c.args.e.now in
    pair_same (pair (least_magnitude e) (int_max (neg_ℤ e.0) e.1)) _ _ (omega (arith, ints, clamps)) (omega (arith, ints, clamps)) ∙ sym (magnitude_is e)
