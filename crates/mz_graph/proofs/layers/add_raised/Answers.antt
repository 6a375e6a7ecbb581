use Rattle.std.proofs.Common.{arith}
use Rattle.mz_graph.proofs.Membership.{in_at}
use Rattle.mz_graph.proofs.layers.add_raised.Goals as goal

pub overflow_add-base : goal.overflow_add-base
overflow_add-base c = let h = c.requires _ (in_at c.args.decls.now c.loop-e.e-index 0 c.loop-e-test.true) in omega (arith, h)
