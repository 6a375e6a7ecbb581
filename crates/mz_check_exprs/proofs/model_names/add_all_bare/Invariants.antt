use Rattle.std.proofs.Common.{◌≡◌, ◌++◌, map, drop}
use Rattle.std.specs.List.{flat_map, enumerate_from}
use Rattle.mz_scope_order.specs.Scoped.{lent_function}
use Rattle.mz_check_meaning.specs.Checks.{numbered, bare_meaning}
use Rattle.mz_check_exprs.proofs.model_names.add_all_bare.Given as goal

abbrev pub invariant-loop-k : goal.invariant-loop-k
invariant-loop-k l = l.fn.all.items ++ flat_map bare_meaning (numbered (map lent_function l.functions)) ≡ l.all.items ++ flat_map bare_meaning (enumerate_from l.k (map lent_function (drop l.k l.functions)))
