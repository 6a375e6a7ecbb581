use Rattle.std.proofs.Common.{pos, arith}
use Rattle.mz_operations.specs.Bounds.{extreme_from, toward_ends}
use Rattle.mz_operations_bounds.proofs.Pairs.{list_at, list_ends, one_extreme, none_extreme}
use Rattle.mz_operations_bounds.proofs.lists.extreme_from.Goals as goal

pub loop-e-preserved : goal.loop-e-preserved
loop-e-preserved c = list_at (extreme_from c.args.side) (toward_ends c.args.side) (one_extreme c.args.side) c.args.others.now c.loop-e.e-index (pos 0, pos 0) _ _ _ (omega arith) c.toward_ends-acc.ensures c.loop-e.invariant

pub returns : goal.returns
returns c = list_ends (extreme_from c.args.side) (λ s. s) (none_extreme c.args.side) c.args.others.now c.loop-e.e-index _ _ (omega arith) c.loop-e.invariant
