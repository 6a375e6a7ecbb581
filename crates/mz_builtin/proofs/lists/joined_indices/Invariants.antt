use Rattle.std.proofs.Common.{◌≡◌, ◌++◌, drop}
use Rattle.mz_builtin.specs.Views.{index_lists_of}
use Rattle.mz_builtin.specs.Readings.{joined}
use Rattle.mz_builtin.proofs.lists.joined_indices.Given as goal

abbrev pub invariant-loop-first : goal.invariant-loop-first
invariant-loop-first l = joined l.firsts (index_lists_of l.tails) ≡ index_lists_of l.all.items ++ joined (drop l.first-index l.firsts) (index_lists_of l.tails)
