use Rattle.std.proofs.Common.{◌≡◌, ◌++◌, map, drop}
use Rattle.mz_value.specs.Contents.{content}
use Rattle.mz_builtin_arguments.proofs.copy.push_copies.Given as goal

abbrev pub invariant-loop-x : goal.invariant-loop-x
invariant-loop-x l = map content l.fn.all.items ++ map content l.items ≡ map content l.all.items ++ map content (drop l.x-index l.items)
