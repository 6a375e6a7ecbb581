use Rattle.std.proofs.Common.{arith, to_z, of_z, w64}
use Rattle.std.proofs.lemmas.Int.{ints, clamps}
use Rattle.mz_interval.specs.Interval.{ends}
use Rattle.fz_build.proofs.Made.{magnitude_row}
use Rattle.fz_build.proofs.integers.magnitude_of.Goals as goal

pub returns : goal.returns
returns c = magnitude_row c.new.result (ends c.args.x.now) (to_z w64 (of_z w64 c.max.result)) (to_z w64 (of_z w64 c.max-high.result)) (omega (arith, ints)) (omega (arith, ints, clamps)) (omega (arith, ints, clamps)) c.new.ensures
