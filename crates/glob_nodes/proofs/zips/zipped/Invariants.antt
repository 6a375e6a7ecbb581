use Rattle.std.proofs.Common.{◌≡◌, ◌++◌, ◌-◌, length, drop, zip}
use Rattle.glob_nodes.proofs.zips.zipped.Given as goal

abbrev pub invariant-loop-k : goal.invariant-loop-k
invariant-loop-k g l = l.ps.items ++ zip (drop l.k l.xs) (drop l.k l.ys) ≡ zip l.xs l.ys

abbrev pub decreases-loop-k : goal.decreases-loop-k
decreases-loop-k g l = length l.xs - l.k
