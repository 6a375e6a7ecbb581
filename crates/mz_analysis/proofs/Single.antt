-- Files have at most one scoped model, one typed program and one fault, and those that have a model or a program have no fault.
use Rattle.std.proofs.Common.{◌≡◌, ℕ, ◌<◌, ◌⊎◌, inl, inr, List, length, map, refl, ap, sym, subst, ◌∙◌}
use Rattle.std.specs.Prelude.{Ok, Err}
use Rattle.std.specs.List.{flat_map}
use Rattle.mz_base.specs.declared.fault.Fault.{Fault}
use Rattle.mz_base.specs.declared.kind.Kind.TheVariants.{Cyclic}
use Rattle.mz_base.specs.Faults.{fault_at}
use Rattle.mz_tree.specs.Items.{ItemTree}
use Rattle.mz_tree.specs.Data.{Given}
use Rattle.mz_graph.specs.Graph.{IsIn}
use Rattle.mz_graph.specs.Order.{IsFirstLeft}
use Rattle.mz_graph.proofs.OneOrder.{one_order}
use Rattle.mz_scope_order.specs.Parts.{decls_of, functions_of, constraint_in, output_in, goal_of, enums_of, given_of, place_of, decl_at, function_at}
use Rattle.mz_scope_names.specs.Sketches.{Sketch}
use Rattle.mz_scope_order.specs.Dependencies.{IsStuckAt, IsBackAt}
use Rattle.mz_scope_order.specs.Scoped.{ScopedTree, decl_sketches, function_sketches, IsScoped, IsCyclic, at_decl, at_function}
use Rattle.mz_include.specs.Naming.{File}
use Rattle.mz_analysis.proofs.Verdicts.{same_verdict}
use Rattle.mz_core.specs.Program.{PlainProgram}
use Rattle.mz_check_meaning.specs.Tests.{Test}
use Rattle.mz_check_meaning.specs.Checks.{Sections, IsProgramOf}
use Rattle.mz_check_data.specs.WithData.{ChecksWithData, IsRefusedWithData, checked_with_data}
use Rattle.mz_analysis.proofs.OneProgram.{less_or_not, one_program}
use Rattle.mz_check.proofs.Contexts.{checked_numbered}
use Rattle.mz_analysis.specs.Analysis.{items_of, IsScopedModel, IsIllNamed, by_a_test, by_a_cycle, IsTypedModel, IsIllTyped, IsRefused, by_names, by_types, HasTypedModel}

-- the scoped model with this order
abbrev in_turn : List ItemTree → List Given → List ℕ → ScopedTree
in_turn is gs order = record {
  enums = enums_of is gs;
  decls = map (decl_at (decls_of is)) order;
  functions = functions_of is;
  constraints = flat_map constraint_in is;
  goal = goal_of is;
  outputs = flat_map output_in is;
  given = given_of is gs;
}

is_in_turn : (is : List ItemTree) (gs : List Given) (s : ScopedTree) (h : IsScoped is gs s) → s ≡ in_turn is gs h.order
is_in_turn is gs s h = rw (← h.enums, ← h.decls, ← h.functions, ← h.constraints, ← h.goal, ← h.outputs, ← h.given) refl

same_order : (is : List ItemTree) (gs : List Given) (s t : ScopedTree) (h : IsScoped is gs s) (k : IsScoped is gs t) → h.order ≡ k.order
same_order is gs s t h k = one_order h.order k.order h.sequence.is k.sequence.is

pub one_scoped : (table : List (List ℕ)) (files : List File) (items : List Given) (s t : ScopedTree) → IsScopedModel table files items s → IsScopedModel table files items t → s ≡ t
one_scoped table files items s t h k =
    is_in_turn (items_of files) items s h.scoped ∙ ap (in_turn (items_of files) items) (same_order (items_of files) items s t h.scoped k.scoped) ∙ sym (is_in_turn (items_of files) items t k.scoped)

not_cyclic : (is : List ItemTree) (gs : List Given) (s : ScopedTree) (f : Fault) → IsScoped is gs s → IsCyclic is f → ⊥
not_cyclic is gs s _ h (at_decl d stuck) = stuck.first.remains (subst (IsIn d) (one_order h.order stuck.order h.sequence.is stuck.is) (h.sequence.complete d stuck.first.counted))
not_cyclic is gs s _ h (at_function f back) = h.sequence.acyclic f back.counted back.back

-- where all have their turn, or not, is told by the one order, and the first of them by its number
first_left : (count : ℕ) (order other : List ℕ) (d e : ℕ) → order ≡ other → IsFirstLeft count order d → IsFirstLeft count other e → d ≡ e
first_left count order other d e same h k = by_number (less_or_not d e)
  where
    by_number : (d < e) ⊎ ((d ≡ e) ⊎ (e < d)) → d ≡ e
    by_number (inl less) = absurd (h.remains (subst (IsIn d) (sym same) (k.first d less)))
    by_number (inr (inl is)) = is
    by_number (inr (inr less)) = absurd (k.remains (subst (IsIn e) same (h.first e less)))

first_back : (ds fs : List Sketch) (f g : ℕ) → IsBackAt ds fs f → IsBackAt ds fs g → f ≡ g
first_back ds fs f g h k = by_number (less_or_not f g)
  where
    by_number : (f < g) ⊎ ((f ≡ g) ⊎ (g < f)) → f ≡ g
    by_number (inl less) = absurd (k.before f less h.back)
    by_number (inr (inl is)) = is
    by_number (inr (inr less)) = absurd (h.before g less k.back)

stuck_or_back : (ds fs : List Sketch) (d f : ℕ) → IsStuckAt ds fs d → IsBackAt ds fs f → ⊥
stuck_or_back ds fs d f h k = h.first.remains (subst (IsIn d) (one_order k.order h.order k.is h.is) (k.complete d h.first.counted))

one_cyclic : (is : List ItemTree) (f g : Fault) → IsCyclic is f → IsCyclic is g → f ≡ g
one_cyclic is _ _ (at_decl d h) (at_decl e k) = ap (λ n. fault_at Cyclic (place_of (decl_at (decls_of is) n))) (first_left (length (decl_sketches is)) h.order k.order d e (one_order h.order k.order h.is k.is) h.first k.first)
one_cyclic is _ _ (at_decl d h) (at_function f k) = absurd (stuck_or_back (decl_sketches is) (function_sketches is) d f h k)
one_cyclic is _ _ (at_function f h) (at_decl d k) = absurd (stuck_or_back (decl_sketches is) (function_sketches is) d f k h)
one_cyclic is _ _ (at_function f h) (at_function g k) = ap (λ n. fault_at Cyclic (function_at (functions_of is) n).span) (first_back (decl_sketches is) (function_sketches is) f g h k)

one_ill_named : (table : List (List ℕ)) (files : List File) (items : List Given) (f g : Fault) → IsIllNamed table files items f → IsIllNamed table files items g → f ≡ g
one_ill_named table files items f g (by_a_test found) (by_a_test other) = cc
one_ill_named table files items f g (by_a_test found) (by_a_cycle none cyclic) = absurd (cc)
one_ill_named table files items f g (by_a_cycle none cyclic) (by_a_test found) = absurd (cc)
one_ill_named table files items f g (by_a_cycle none cyclic) (by_a_cycle other too) = one_cyclic (items_of files) f g cyclic too

pub not_both : (table : List (List ℕ)) (files : List File) (items : List Given) (s : ScopedTree) (f : Fault) → IsScopedModel table files items s → IsIllNamed table files items f → ⊥
not_both table files items s f h (by_a_test found) = let none = h.tested in cc
not_both table files items s f h (by_a_cycle none cyclic) = not_cyclic (items_of files) items s f h.scoped cyclic

-- two outcomes of one test
one_ok : {A : Type 0} (t u : Test A) (x y : A) → t ≡ u → t ≡ Ok x → u ≡ Ok y → x ≡ y
one_ok t u x y e is too = cc

one_err : {A : Type 0} (t u : Test A) (f g : Fault) → t ≡ u → t ≡ Err f → u ≡ Err g → f ≡ g
one_err t u f g e is too = cc

ok_and_err : {A : Type 0} (t u : Test A) (x : A) (f : Fault) → t ≡ u → t ≡ Ok x → u ≡ Err f → ⊥
ok_and_err t u x f e ok err = cc

-- a scoped model isn't both typed and refused
not_both_typed : (table : List (List ℕ)) (s : ScopedTree) (p : PlainProgram) (f : Fault) → ChecksWithData table s p → IsRefusedWithData table s f → ⊥
not_both_typed table s p f typed refused =
    ok_and_err (checked_with_data table s typed.order) (checked_with_data table s refused.order) typed.all f (same_verdict s table typed.order refused.order typed.types refused.types) typed.are refused.fault

-- it is typed to one program, and refused with one fault
one_checked : (table : List (List ℕ)) (s : ScopedTree) (p q : PlainProgram) → ChecksWithData table s p → ChecksWithData table s q → p ≡ q
one_checked table s p q h k =
    let same : h.all ≡ k.all = one_ok (checked_with_data table s h.order) (checked_with_data table s k.order) h.all k.all (same_verdict s table h.order k.order h.types k.types) h.are k.are in
    one_program table s k.all p q (checked_numbered table s k.order k.all k.are) (subst (λ (all : Sections). IsProgramOf table s all p) same h.program) k.program

one_refusal : (table : List (List ℕ)) (s : ScopedTree) (f g : Fault) → IsRefusedWithData table s f → IsRefusedWithData table s g → f ≡ g
one_refusal table s f g h k = one_err (checked_with_data table s h.order) (checked_with_data table s k.order) f g (same_verdict s table h.order k.order h.types k.types) h.fault k.fault

pub one_typed : (table : List (List ℕ)) (files : List File) (items : List Given) (p q : PlainProgram) → IsTypedModel table files items p → IsTypedModel table files items q → p ≡ q
one_typed table files items p q h k = one_checked table k.scoped p q (subst (λ s. ChecksWithData table s p) (one_scoped table files items h.scoped k.scoped h.is k.is) h.types) k.types

one_ill_typed : (table : List (List ℕ)) (files : List File) (items : List Given) (f g : Fault) → IsIllTyped table files items f → IsIllTyped table files items g → f ≡ g
one_ill_typed table files items f g h k = one_refusal table k.scoped f g (subst (λ s. IsRefusedWithData table s f) (one_scoped table files items h.scoped k.scoped h.is k.is) h.types) k.types

pub one_refused : (table : List (List ℕ)) (files : List File) (items : List Given) (f g : Fault) → IsRefused table files items f → IsRefused table files items g → f ≡ g
one_refused table files items f g (by_names h) (by_names k) = one_ill_named table files items f g h k
one_refused table files items f g (by_names h) (by_types k) = absurd (not_both table files items k.scoped f k.is h)
one_refused table files items f g (by_types h) (by_names k) = absurd (not_both table files items h.scoped g h.is k)
one_refused table files items f g (by_types h) (by_types k) = one_ill_typed table files items f g h k

pub not_refused : (table : List (List ℕ)) (files : List File) (items : List Given) (f : Fault) → HasTypedModel table files items → IsRefused table files items f → ⊥
not_refused table files items f typed (by_names ill) = not_both table files items typed.1.scoped f typed.1.is ill
not_refused table files items f typed (by_types ill) =
    not_both_typed table typed.1.scoped typed.0 f typed.1.types (subst (λ s. IsRefusedWithData table s f) (one_scoped table files items ill.scoped typed.1.scoped ill.is typed.1.is) ill.types)
