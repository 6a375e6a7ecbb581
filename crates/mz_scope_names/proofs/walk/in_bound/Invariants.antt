use Rattle.std.proofs.Common.{◌≡◌, ◌++◌, drop, map}
use Rattle.mz_scope_names.specs.Occurrences.{bound}
use Rattle.mz_scope_names.proofs.walk.in_bound.Given as goal

abbrev pub invariant-loop-name : goal.invariant-loop-name
invariant-loop-name l = l.fn.out.items ++ map bound l.names ≡ l.out.items ++ map bound (drop l.name-index l.names)
