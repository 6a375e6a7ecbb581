use Rattle.std.proofs.Common.{◌≡◌, ℕ, take}
use Rattle.mz_scope_names.specs.Sets.{holds}
use Rattle.mz_scope_names.proofs.set.NameSet.of.Given as goal

abbrev pub invariant-loop-name : goal.invariant-loop-name
invariant-loop-name l = (n : ℕ) → holds n l.set ≡ holds n (take l.name-index l.names)
