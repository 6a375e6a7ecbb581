use Rattle.std.proofs.Common.{arith}
use Rattle.std.specs.Prelude.{pos}
use Rattle.mz_value.proofs.Sizes.{canonical_at, limit_at, cardinality_more, cardinality_fits}
use Rattle.mz_value.proofs.walks.cardinality.Goals as goal

pub size-total-requires-clause-not_empty : goal.size-total-requires-clause-not_empty
size-total-requires-clause-not_empty c = canonical_at c.args.ranges.now c.loop-r.r-index (pos 0, pos 0) c.requires.canonical (omega arith)

pub size-total-requires-clause-low : goal.size-total-requires-clause-low
size-total-requires-clause-low c = (limit_at c.args.ranges.now c.loop-r.r-index (pos 0, pos 0) c.requires.limits (omega arith)).0

pub size-total-requires-clause-high : goal.size-total-requires-clause-high
size-total-requires-clause-high c = (limit_at c.args.ranges.now c.loop-r.r-index (pos 0, pos 0) c.requires.limits (omega arith)).1

pub overflow_add-total : goal.overflow_add-total
overflow_add-total c =
    let more = cardinality_more c.args.ranges.now c.loop-r.r-index (pos 0, pos 0) (omega arith) in
    let bound = cardinality_fits c.args.ranges.now c.requires.canonical c.requires.limits in
    omega (arith, c.loop-r.invariant, c.size-total.ensures)
