use Rattle.std.proofs.Common.{◌≡◌, ◌++◌, map, drop}
use Rattle.std.specs.List.{flat_map, enumerate_from}
use Rattle.mz_scope_order.specs.Scoped.{lent_function}
use Rattle.mz_check_meaning.specs.Checks.{numbered, with_parameters}
use Rattle.mz_check_exprs.proofs.model_names.overloads.Given as goal

abbrev pub invariant-loop-k : goal.invariant-loop-k
invariant-loop-k l = flat_map with_parameters (numbered (map lent_function l.functions)) ≡ l.all.items ++ flat_map with_parameters (enumerate_from l.k (map lent_function (drop l.k l.functions)))
