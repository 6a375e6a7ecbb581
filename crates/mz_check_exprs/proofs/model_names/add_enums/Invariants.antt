use Rattle.std.proofs.Common.{◌≡◌, ◌++◌, map, drop}
use Rattle.std.specs.List.{flat_map, enumerate_from}
use Rattle.mz_scope_order.specs.Scoped.{enum_tree}
use Rattle.mz_check_meaning.specs.Checks.{numbered, enum_meanings}
use Rattle.mz_check_exprs.proofs.model_names.add_enums.Given as goal

abbrev pub invariant-loop-k : goal.invariant-loop-k
invariant-loop-k l = l.fn.all.items ++ flat_map enum_meanings (numbered (map enum_tree l.enums)) ≡ l.all.items ++ flat_map enum_meanings (enumerate_from l.k (map enum_tree (drop l.k l.enums)))
