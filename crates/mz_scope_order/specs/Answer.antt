-- The answer to the question in which order a model's declarations are evaluated, and in which order types are typed.
use Rattle.std.specs.Prelude.{ℕ, List, map}
use Rattle.mz_scope_names.specs.Sketches.{Sketch}
use Rattle.mz_scope_order.specs.declared.sequence.Sequence.{Sequence}
use Rattle.mz_scope_order.specs.declared.sequence.Sequence.TheVariants.{Ordered, CyclicDecl, CyclicFunction}
use Rattle.mz_scope_order.specs.Dependencies.{sketch_at, IsSequence, IsStuckAt, IsBackAt}
use Rattle.mz_scope_order.specs.Subjects.{Subject, subject, IsTypeSequence}

-- declarations in order of evaluation; and an order of types, in which a declaration has the number of its place in that order
pub record AreOrders (decls functions : List Sketch) (order : List ℕ) (all : List Subject) : Type 0 where
  pub sequence : IsSequence decls functions order
  pub types : IsTypeSequence (map (sketch_at decls) order) functions all

abbrev pub IsAnswer : List Sketch → List Sketch → Sequence → Type 0
IsAnswer decls functions (Ordered order types) = AreOrders decls functions order.items (map subject types.items)
IsAnswer decls functions (CyclicDecl d) = IsStuckAt decls functions d
IsAnswer decls functions (CyclicFunction f) = IsBackAt decls functions f
