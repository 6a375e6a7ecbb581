use Rattle.std.proofs.Common.{◌≡◌, drop}
use Rattle.mz_scope.specs.Tests.{is_reserved, first}
use Rattle.mz_scope.proofs.first.first_reserved.Given as goal

abbrev pub invariant-loop-o : goal.invariant-loop-o
invariant-loop-o l = first (is_reserved l.names) l.os ≡ first (is_reserved l.names) (drop l.o-index l.os)
