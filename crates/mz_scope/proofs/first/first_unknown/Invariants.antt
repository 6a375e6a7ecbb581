use Rattle.std.proofs.Common.{◌≡◌, drop}
use Rattle.mz_scope.specs.Tests.{known_in, is_unknown, first}
use Rattle.mz_scope.proofs.first.first_unknown.Given as goal

abbrev pub invariant-loop-o : goal.invariant-loop-o
invariant-loop-o l = first (is_unknown (known_in l.names) l.bound l.declared) l.os ≡ first (is_unknown (known_in l.names) l.bound l.declared) (drop l.o-index l.os)
