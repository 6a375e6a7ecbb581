use Rattle.std.proofs.Common.{arith}
use Rattle.glob_order.proofs.Orders.{longer, shorter}
use Rattle.glob_order.proofs.of_values.lists.comes_before.Goals as goal

pub returns-then-k-ys : goal.returns-then-k-ys
returns-then-k-ys c = longer c.args.equal c.args.xs.now c.args.ys.now c.loop-k.k _ (omega arith) (omega arith) c.loop-k.invariant.1

pub returns-else-xs-ys : goal.returns-else-xs-ys
returns-else-xs-ys c = shorter c.args.equal c.args.xs.now c.args.ys.now c.loop-k.k _ (omega arith) (omega arith) c.loop-k.invariant.1
