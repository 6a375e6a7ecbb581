use Rattle.std.proofs.Common.{arith}
use Rattle.std.specs.Prelude.{pos}
use Rattle.mz_value.proofs.Sizes.{canonical_at}
use Rattle.mz_value.proofs.Showable.{spelled_at}
use Rattle.mz_value.proofs.shown.push_more_ranges.Goals as goal

pub push_range-requires-clause-not_empty : goal.push_range-requires-clause-not_empty
push_range-requires-clause-not_empty c = canonical_at c.args.ranges.now c.loop-r.r-index (pos 0, pos 0) c.requires.canonical (omega arith)

pub push_range-requires-clause-low : goal.push_range-requires-clause-low
push_range-requires-clause-low c = (spelled_at c.args.s c.args.ranges.now c.loop-r.r-index (pos 0, pos 0) c.requires.spelled (omega arith)).0

pub push_range-requires-clause-high : goal.push_range-requires-clause-high
push_range-requires-clause-high c = (spelled_at c.args.s c.args.ranges.now c.loop-r.r-index (pos 0, pos 0) c.requires.spelled (omega arith)).1
