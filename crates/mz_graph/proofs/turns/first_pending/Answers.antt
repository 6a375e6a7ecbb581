use Rattle.std.proofs.Common.{arith}
use Rattle.mz_graph.proofs.Membership.{in_at}
use Rattle.mz_graph.proofs.turns.first_pending.Goals as goal

pub bounds-done-heads : goal.bounds-done-heads
bounds-done-heads c = c.requires _ (in_at c.args.heads.now c.loop-k.k 0 (omega arith))
