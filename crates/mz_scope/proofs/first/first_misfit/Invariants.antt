use Rattle.std.proofs.Common.{◌≡◌, drop}
use Rattle.mz_scope.specs.Tests.{is_misfit, first}
use Rattle.mz_scope.proofs.first.first_misfit.Given as goal

abbrev pub invariant-loop-o : goal.invariant-loop-o
invariant-loop-o l = first (is_misfit) l.os ≡ first (is_misfit) (drop l.o-index l.os)
