use Rattle.std.proofs.Common.{◌≡◌, drop}
use Rattle.mz_scope.specs.Tests.{is_missing, first}
use Rattle.mz_scope.proofs.first.first_missing.Given as goal

abbrev pub invariant-loop-o : goal.invariant-loop-o
invariant-loop-o l = first (is_missing l.valued l.listed) l.os ≡ first (is_missing l.valued l.listed) (drop l.o-index l.os)
