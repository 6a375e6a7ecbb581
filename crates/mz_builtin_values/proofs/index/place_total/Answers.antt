use Rattle.std.proofs.Common.{arith, rules}
use Rattle.std.specs.Prelude.{pos}
use Rattle.mz_builtin_values.proofs.Places.{places_at, places_end}
use Rattle.mz_builtin_values.proofs.index.place_total.Goals as goal

pub loop-r-preserved : goal.loop-r-preserved
loop-r-preserved c = (omega arith, places_at c.args.ranges.now c.loop-r.r-index (pos 0, pos 0) c.loop-r.total c.places-size.result _ _ (omega arith) c.places-size.ensures.value (search rules) c.loop-r.invariant.1)

pub returns-clause-value : goal.returns-clause-value
returns-clause-value c = places_end c.args.ranges.now c.loop-r.r-index c.loop-r.total _ (omega arith) c.loop-r.invariant.1
