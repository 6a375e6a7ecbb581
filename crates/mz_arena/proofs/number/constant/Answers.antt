use Rattle.std.proofs.Common.{arith, to_z, of_z, w64}
use Rattle.std.proofs.lemmas.Int.{ints}
use Rattle.mz_arena.proofs.Intervals.{constant_row}
use Rattle.mz_arena.proofs.number.constant.Goals as goal

pub returns : goal.returns
returns c = constant_row c.new.result c.args.n.now (to_z w64 (of_z w64 c.args.n.now)) (to_z w64 (of_z w64 c.args.n.now)) (omega (arith, ints)) (omega (arith, ints)) c.new.ensures
