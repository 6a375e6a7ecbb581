use Rattle.std.proofs.Common.{arith}
use Rattle.std.specs.Prelude.{pos}
use Rattle.mz_value.proofs.Sizes.{canonical_at}
use Rattle.mz_operations.specs.Arrays.{element_of}
use Rattle.mz_builtin_values.proofs.Numbered.{ranges_at}
use Rattle.mz_builtin_values.proofs.elements.push_ranges.Goals as goal

pub push_range-requires : goal.push_range-requires
push_range-requires c = canonical_at c.args.ranges.now c.loop-r.r-index (pos 0, pos 0) c.requires (omega arith)

pub loop-r-preserved : goal.loop-r-preserved
loop-r-preserved c = ranges_at (element_of c.args.of) c.args.ranges.now c.loop-r.r-index (pos 0, pos 0) _ _ _ (omega arith) c.in_ok-push_range.ensures c.loop-r.invariant
