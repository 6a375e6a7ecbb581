use Rattle.std.proofs.Common.{map, subst, sym}
use Rattle.std.specs.List.{flat_map}
use Rattle.mz_tree.specs.Data.{given}
use Rattle.mz_scope_names.specs.Given.{occurrences}
use Rattle.mz_scope_names.specs.StepsWalk.{items_of}
use Rattle.mz_scope_names.specs.Sketches.{decl_sketch}
use Rattle.mz_scope_order.specs.Dependencies.{AreDeclarations}
use Rattle.mz_scope_order.specs.Scoped.{ScopedTree, scoped_tree, parts_tree, IsScoped, AreRanked}
use Rattle.mz_scope.specs.Scope.{IsRefused, by_a_cycle}
use Rattle.mz_scope.specs.StepsScope.{IsArranged, HasCycle}
use Rattle.mz_scope.specs.Tests.{known_in, end_of, solve_in}
use Rattle.mz_scope.proofs.Distinct.{have_passed, declarations}
use Rattle.mz_scope.proofs.Arranging.{scoped, ranked, cyclic, if_ok, if_err_refused}
use Rattle.mz_scope.proofs.scoping.scope.Goals as goal

pub sequence_in-requires : goal.sequence_in-requires
sequence_in-requires c =
    let is = items_of c.args.sources.now.files.items in
    let ds = map given c.args.given_data.now.items.items in
    let h = have_passed c.args.names.now (known_in c.args.names.now) (end_of c.args.sources.now.files.items) (flat_map solve_in is) (occurrences is ds) c.in_ok-test_names.ensures.passed in
    subst (λ (z : ScopedTree). AreDeclarations (map decl_sketch z.decls)) (sym c.in_ok-parts.ensures) (declarations is ds (known_in c.args.names.now) h)

pub returns-clause-scoped : goal.returns-clause-scoped
returns-clause-scoped c =
    let is = items_of c.args.sources.now.files.items in
    let ds = map given c.args.given_data.now.items.items in
    let h = have_passed c.args.names.now (known_in c.args.names.now) (end_of c.args.sources.now.files.items) (flat_map solve_in is) (occurrences is ds) c.in_ok-test_names.ensures.passed in
    if_ok (λ s. IsArranged (parts_tree c.in_ok-parts.parts) (scoped_tree s)) (λ s. IsScoped is ds (scoped_tree s)) c.in_sequence.result
    (λ s k. scoped is ds (known_in c.args.names.now) (parts_tree c.in_ok-parts.parts) (scoped_tree s) h c.in_ok-parts.ensures k) c.in_sequence.ensures.arranged

pub returns-clause-ranked : goal.returns-clause-ranked
returns-clause-ranked c =
    if_ok (λ s. IsArranged (parts_tree c.in_ok-parts.parts) (scoped_tree s)) (λ s. AreRanked (scoped_tree s)) c.in_sequence.result
    (λ s k. ranked (parts_tree c.in_ok-parts.parts) (scoped_tree s) k) c.in_sequence.ensures.arranged

pub returns-clause-refused : goal.returns-clause-refused
returns-clause-refused c =
    let is = items_of c.args.sources.now.files.items in
    let ds = map given c.args.given_data.now.items.items in
    if_err_refused (HasCycle (parts_tree c.in_ok-parts.parts)) (IsRefused c.args.names.now c.args.sources.now.files.items c.args.given_data.now.items.items) c.in_sequence.result
    (λ f k. by_a_cycle c.in_ok-test_names.ensures.passed (cyclic is ds (parts_tree c.in_ok-parts.parts) f c.in_ok-parts.ensures k)) c.in_sequence.ensures.cyclic
