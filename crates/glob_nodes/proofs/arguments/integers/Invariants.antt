use Rattle.std.proofs.Common.{◌≡◌, ◌++◌, map, drop}
use Rattle.glob_nodes.specs.Arguments.{int_symbol}
use Rattle.glob_nodes.proofs.arguments.integers.Given as goal

abbrev pub invariant-loop-s : goal.invariant-loop-s
invariant-loop-s l = map int_symbol l.ids.items ++ drop l.s-index l.items ≡ l.items
