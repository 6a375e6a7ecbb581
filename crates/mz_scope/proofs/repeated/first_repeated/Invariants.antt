use Rattle.std.proofs.Common.{◌≡◌, [], take, drop}
use Rattle.mz_scope.specs.Tests.{is_repeated, first_after}
use Rattle.mz_scope.specs.StepsTests.{Tracks}
use Rattle.mz_scope.proofs.repeated.first_repeated.Given as goal

abbrev pub invariant-loop-o : goal.invariant-loop-o
invariant-loop-o l = record {
  tracks : Tracks (take l.o-index l.os) l.declared l.valued;
  first : first_after is_repeated [] l.os ≡ first_after is_repeated (take l.o-index l.os) (drop l.o-index l.os);
}
