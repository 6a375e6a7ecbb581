use Rattle.std.proofs.Common.{arith}
use Rattle.std.proofs.lemmas.Int.{ints, clamps}
use Rattle.fz_build.proofs.integers.greatest.Goals as goal

pub invariant_of-result : goal.invariant_of-result
invariant_of-result c = record {
  ordered = omega (arith, ints, clamps);
  lo_in_limit = omega (arith, ints, clamps);
  hi_in_limit = omega (arith, ints, clamps);
}
