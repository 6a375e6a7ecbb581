use Rattle.std.proofs.Common.{◌≡◌, ◌++◌, ◌∷◌, drop, map}
use Rattle.mz_core.specs.Types.{plain_type}
use Rattle.mz_builtin.specs.Views.{type_lists_of}
use Rattle.mz_builtin.proofs.lists.add_type_lists.Given as goal

abbrev pub invariant-loop-tail : goal.invariant-loop-tail
invariant-loop-tail l = type_lists_of l.fn.all.items ++ map (λ tail. plain_type l.first ∷ tail) (type_lists_of l.tails) ≡ type_lists_of l.all.items ++ map (λ tail. plain_type l.first ∷ tail) (type_lists_of (drop l.tail-index l.tails))
