use Rattle.std.proofs.Common.{◌≡◌, ◌++◌, map, drop}
use Rattle.std.specs.List.{enumerate_from}
use Rattle.mz_scope_order.specs.Scoped.{scoped_decl}
use Rattle.mz_check_meaning.specs.Checks.{numbered, decl_meaning}
use Rattle.mz_check_exprs.proofs.model_names.add_decls.Given as goal

abbrev pub invariant-loop-k : goal.invariant-loop-k
invariant-loop-k l = l.fn.all.items ++ map decl_meaning (numbered (map scoped_decl l.decls)) ≡ l.all.items ++ map decl_meaning (enumerate_from l.k (map scoped_decl (drop l.k l.decls)))
