use Rattle.std.proofs.Common.{◌≡◌, ◌++◌, drop, map}
use Rattle.mz_core.specs.Types.{plain_type}
use Rattle.mz_builtin.specs.Views.{type_lists_of}
use Rattle.mz_builtin.specs.Readings.{joined}
use Rattle.mz_builtin.proofs.lists.joined_types.Given as goal

abbrev pub invariant-loop-first : goal.invariant-loop-first
invariant-loop-first l = joined (map plain_type l.firsts) (type_lists_of l.tails) ≡ type_lists_of l.all.items ++ joined (map plain_type (drop l.first-index l.firsts)) (type_lists_of l.tails)
