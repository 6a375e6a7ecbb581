use Rattle.std.proofs.Common.{pos, arith}
use Rattle.mz_operations.specs.Bounds.{folded_ends, fold_ends}
use Rattle.mz_operations_bounds.proofs.Folding.{one_folded, none_folded}
use Rattle.mz_operations_bounds.proofs.Pairs.{list_at, list_ends}
use Rattle.mz_operations_bounds.proofs.lists.folded_ends.Goals as goal

pub loop-e-preserved : goal.loop-e-preserved
loop-e-preserved c = list_at (folded_ends c.args.op) (fold_ends c.args.op) (one_folded c.args.op) c.args.all.now c.loop-e.e-index (pos 0, pos 0) _ _ _ (omega arith) c.fold_ends-acc.ensures c.loop-e.invariant

pub returns : goal.returns
returns c = list_ends (folded_ends c.args.op) (λ s. s) (none_folded c.args.op) c.args.all.now c.loop-e.e-index _ _ (omega arith) c.loop-e.invariant
