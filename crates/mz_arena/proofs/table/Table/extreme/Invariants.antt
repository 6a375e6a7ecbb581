use Rattle.std.proofs.Common.{◌≡◌}
use Rattle.mz_interval.specs.Interval.{ends}
use Rattle.mz_operations.specs.Bounds.{extreme_ends, extreme_from}
use Rattle.mz_arena.specs.Tables.{wholes_of}
use Rattle.mz_arena.proofs.table.Table.extreme.Given as goal

abbrev pub invariant-loop-head : goal.invariant-loop-head
invariant-loop-head l = extreme_from l.side (ends l.acc) (wholes_of l.self l.at) ≡ extreme_ends l.side (wholes_of l.self l.list)

abbrev pub decreases-loop-head : goal.decreases-loop-head
decreases-loop-head l = l.at
