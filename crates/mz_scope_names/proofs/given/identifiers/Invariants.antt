use Rattle.std.proofs.Common.{◌≡◌, ◌++◌, drop, map}
use Rattle.std.specs.Option.{option_map}
use Rattle.mz_tree.specs.Data.{value, values}
use Rattle.mz_scope_names.specs.Given.{identifiers}
use Rattle.mz_scope_names.proofs.given.identifiers.Given as goal

abbrev pub invariant-loop-datum : goal.invariant-loop-datum
invariant-loop-datum l = identifiers (values (map value l.list)) ≡ option_map (λ ns. l.names.items ++ ns) (identifiers (values (map value (drop l.datum-index l.list))))
