use Rattle.std.proofs.Common.{◌≡◌, ◌++◌, ◌∷◌, drop, map}
use Rattle.mz_core.specs.Types.{plain_type}
use Rattle.mz_builtin.proofs.lists.type_list.Given as goal

abbrev pub invariant-loop-t : goal.invariant-loop-t
invariant-loop-t l = plain_type l.first ∷ map plain_type l.tail ≡ map plain_type l.all.items ++ map plain_type (drop l.t-index l.tail)
