use Rattle.std.proofs.Common.{◌≡◌, ◌++◌, ◌∷◌, drop, map}
use Rattle.mz_builtin.specs.Views.{index_lists_of}
use Rattle.mz_builtin.proofs.lists.add_index_lists.Given as goal

abbrev pub invariant-loop-tail : goal.invariant-loop-tail
invariant-loop-tail l = index_lists_of l.fn.all.items ++ map (λ tail. l.first ∷ tail) (index_lists_of l.tails) ≡ index_lists_of l.all.items ++ map (λ tail. l.first ∷ tail) (index_lists_of (drop l.tail-index l.tails))
