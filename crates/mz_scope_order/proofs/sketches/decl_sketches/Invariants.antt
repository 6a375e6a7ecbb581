use Rattle.std.proofs.Common.{◌≡◌, ◌++◌, map, drop}
use Rattle.mz_scope_names.specs.Sketches.{sketch, decl_sketch}
use Rattle.mz_scope_order.specs.Scoped.{scoped_decl}
use Rattle.mz_scope_order.proofs.sketches.decl_sketches.Given as goal

abbrev pub invariant-loop-d : goal.invariant-loop-d
invariant-loop-d l = map decl_sketch (map scoped_decl l.decls) ≡ map sketch l.all.items ++ map decl_sketch (map scoped_decl (drop l.d-index l.decls))
