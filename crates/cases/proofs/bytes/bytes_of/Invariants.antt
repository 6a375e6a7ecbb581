use Rattle.std.proofs.Common.{◌≡◌, ◌++◌, length}
use Rattle.cases.specs.Bytes.{written}
use Rattle.cases.proofs.bytes.bytes_of.Given as goal

abbrev pub invariant-loop-byte : goal.invariant-loop-byte
invariant-loop-byte l = l.bytes.items ++ written l.rest ≡ written l.initial.rest

abbrev pub decreases-loop-byte : goal.decreases-loop-byte
decreases-loop-byte l = length l.rest
