use Rattle.std.proofs.Common.{arith}
use Rattle.glob_nodes.proofs.SideBySide.{zip_grows, zip_whole}
use Rattle.glob_nodes.proofs.zips.zipped.Goals as goal

pub loop-k-preserved : goal.loop-k-preserved
loop-k-preserved g c = zip_grows c.loop-k.ps.items c.push.new.self.items _ c.index-xs-k.result c.index-xs-k.result c.index-ys-k.result c.index-ys-k.result c.args.xs.now c.args.ys.now c.loop-k.k _ c.in_ok-push.ensures.items (omega arith) (omega (arith, c.loop-k-test.true, c.lesser-n.ensures)) (omega (arith, c.loop-k-test.true, c.lesser-n.ensures)) c.index-xs-k.is c.index-ys-k.is c.loop-k.invariant

pub returns : goal.returns
returns g c = zip_whole c.loop-k.ps.items _ c.args.xs.now c.args.ys.now c.loop-k.k (omega (arith, c.loop-k-test.false, c.lesser-n.ensures)) c.loop-k.invariant
