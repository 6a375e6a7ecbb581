use Rattle.std.proofs.Common.{arith}
use Rattle.glob_graph.proofs.Rowwise.{steps_go, steps_end}
use Rattle.glob_graph.proofs.tables.offsets.Goals as goal

pub loop-left-preserved : goal.loop-left-preserved
loop-left-preserved c = steps_go c.loop-left.places.items c.push.new.self.items _ c.args.columns c.loop-left.at _ c.loop-left.left _ c.in_ok-push.ensures.items c.in_ok-at.ensures (omega (arith, c.loop-left-test.true)) c.loop-left.invariant

pub returns : goal.returns
returns c = steps_end c.loop-left.places.items _ c.args.columns c.loop-left.at c.loop-left.left (omega (arith, c.loop-left-test.false)) c.loop-left.invariant
