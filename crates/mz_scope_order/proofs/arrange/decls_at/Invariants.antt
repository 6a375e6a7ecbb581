use Rattle.std.proofs.Common.{◌≡◌, ◌++◌, drop, map}
use Rattle.mz_scope_order.specs.Parts.{decl_at}
use Rattle.mz_scope_order.specs.Scoped.{scoped_decl}
use Rattle.mz_scope_order.proofs.arrange.decls_at.Given as goal

abbrev pub invariant-loop-k : goal.invariant-loop-k
invariant-loop-k l = map scoped_decl l.out.items ++ map (decl_at (map scoped_decl l.decls)) (drop l.k-index l.order) ≡ map (decl_at (map scoped_decl l.decls)) l.order
