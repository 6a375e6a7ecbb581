-- Parts in an order of evaluation, and parts that have none. Mirror of src/scoping.rt; private clauses only.
use Rattle.std.specs.Prelude.{◌≡◌, ℕ, List, map}
use Rattle.mz_base.specs.declared.fault.Fault.{Fault}
use Rattle.mz_base.specs.declared.kind.Kind.TheVariants.{Cyclic}
use Rattle.mz_base.specs.Faults.{fault_at}
use Rattle.mz_scope_names.specs.Sketches.{decl_sketch, function_sketch}
use Rattle.mz_scope_order.specs.Dependencies.{IsSequence, IsStuckAt, IsBackAt}
use Rattle.mz_scope_order.specs.Parts.{place_of, decl_at, function_at}
use Rattle.mz_scope_order.specs.Scoped.{ScopedTree, in_order}

-- the same parts, with the declarations in order of evaluation
pub record IsArranged (t s : ScopedTree) : Type 0 where
  pub order : List ℕ
  pub sequence : IsSequence (map decl_sketch t.decls) (map function_sketch t.functions) order
  pub is : s ≡ in_order t order

pub data HasCycle (t : ScopedTree) : Fault → Type 0 where
  of_decl : (d : ℕ) → IsStuckAt (map decl_sketch t.decls) (map function_sketch t.functions) d → HasCycle t (fault_at Cyclic (place_of (decl_at t.decls d)))
  of_function : (f : ℕ) → IsBackAt (map decl_sketch t.decls) (map function_sketch t.functions) f → HasCycle t (fault_at Cyclic (function_at t.functions f).span)
