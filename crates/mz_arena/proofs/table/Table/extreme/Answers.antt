use Rattle.mz_interval.specs.Interval.{ends}
use Rattle.mz_operations.specs.Bounds.{extreme_ends}
use Rattle.mz_arena.specs.Tables.{wholes_of}
use Rattle.mz_arena.proofs.Lists.{extreme_step, extreme_end}
use Rattle.mz_arena.proofs.table.Table.extreme.Goals as goal

pub loop-head-preserved : goal.loop-head-preserved
loop-head-preserved c =
    extreme_step c.args.side (ends c.loop-head.acc) (ends c.toward-acc.result) (ends c.in-Some-split.head) (wholes_of c.args.self.now c.loop-head.at) (wholes_of c.args.self.now c.in-Some-split.tail) (extreme_ends c.args.side (wholes_of c.args.self.now c.args.list)) c.in-Some-split.ensures.parts c.toward-acc.ensures c.loop-head.invariant

pub returns : goal.returns
returns c =
    extreme_end c.args.side (ends c.loop-head.acc) (wholes_of c.args.self.now c.loop-head.at) (extreme_ends c.args.side (wholes_of c.args.self.now c.args.list)) c.in_default-split.ensures.parts c.loop-head.invariant
