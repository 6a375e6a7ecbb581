use Rattle.std.proofs.Common.{◌∙◌, ℕ, List, Vec, Global, map, refl, sym, ap, subst}
use Rattle.mz_scope_order.specs.declared.subject.Subject.{Subject}
use Rattle.mz_scope_order.specs.Scoped.{scoped_tree, parts_tree, in_order}
use Rattle.mz_scope_order.specs.Subjects.{subject, IsOrderOf}
use Rattle.mz_scope.proofs.Arranging.{orders_of, ordered, within_parts, cyclic_decl, cyclic_function}
use Rattle.mz_scope.proofs.scoping.in_sequence.Goals as goal

pub arranged-requires : goal.arranged-requires
arranged-requires c = within_parts c.args.parts c.args.sequence c.in-Ordered.order c.in-Ordered.types c.as_slice.result.now c.requires c.in-Ordered.is c.as_slice.ensures.value

pub returns-in-Ordered-clause-ordered : goal.returns-in-Ordered-clause-ordered
returns-in-Ordered-clause-ordered c =
    let s = c.in_ok-scoped-in-Ordered.scoped in
    let a = orders_of c.args.parts c.args.sequence c.in-Ordered.order c.in-Ordered.types c.requires c.in-Ordered.is in
    subst (λ (ts : Vec Subject Global). IsOrderOf (scoped_tree s) (map subject ts.items)) (sym c.in_ok-scoped-in-Ordered.ensures.types)
    (ordered (parts_tree c.args.parts) (scoped_tree s) c.in-Ordered.order.items (map subject c.in-Ordered.types.items) a
    (c.in_ok-scoped-in-Ordered.ensures.tree ∙ ap (λ (order : List ℕ). in_order (parts_tree c.args.parts) order) c.as_slice.ensures.value))

pub returns-in-CyclicDecl-clause-cyclic : goal.returns-in-CyclicDecl-clause-cyclic
returns-in-CyclicDecl-clause-cyclic c = cyclic_decl c.args.parts c.args.sequence c.in-CyclicDecl.d c.index.result.now _ c.cyclic.result c.requires c.in-CyclicDecl.is c.index.ensures refl c.cyclic.ensures

pub returns-clause-cyclic : goal.returns-clause-cyclic
returns-clause-cyclic c = cyclic_function c.args.parts c.args.sequence c.in-CyclicFunction.f c.index-in-CyclicFunction.result.now c.cyclic-in-CyclicFunction.result c.requires c.in-CyclicFunction.is c.index-in-CyclicFunction.ensures c.cyclic-in-CyclicFunction.ensures
