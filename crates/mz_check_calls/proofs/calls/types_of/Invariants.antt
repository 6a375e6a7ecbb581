use Rattle.std.proofs.Common.{◌≡◌, ◌++◌, map, drop}
use Rattle.mz_core.specs.Types.{plain_type}
use Rattle.mz_core.specs.Tree.{type_of}
use Rattle.mz_core.specs.TreeViews.{tree}
use Rattle.mz_check_calls.proofs.calls.types_of.Given as goal

abbrev pub invariant-loop-e : goal.invariant-loop-e
invariant-loop-e l = map plain_type l.types.items ++ map type_of (map tree (drop l.e-index l.es)) ≡ map type_of (map tree l.es)
