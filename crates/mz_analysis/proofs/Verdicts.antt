-- What a model is typed to with its data, or its first fault, is the same in every order of its types.
use Rattle.std.proofs.Common.{◌≡◌, ℕ, ◌<◌, List, [], ◌∷◌, ◌++◌, length, refl, ap, sym, ◌∙◌, arith}
use Rattle.std.specs.Prelude.{Option, Some, None, Ok}
use Rattle.std.specs.List.{AllByRecursion, flat_map}
use Rattle.std.proofs.lemmas.List.{length-map}
use Rattle.mz_base.specs.declared.fault.Span.{Span}
use Rattle.mz_core.specs.Tree.{Tree}
use Rattle.mz_core.specs.Types.{PlainType}
use Rattle.mz_core.specs.Program.{minimize, maximize}
use Rattle.mz_tree.specs.Tree as source
use Rattle.mz_tree.specs.Tree.{Declaration}
use Rattle.mz_tree.specs.Items as item
use Rattle.mz_tree.specs.Items.{FunctionTree, GoalTree}
use Rattle.mz_scope_names.specs.declared.name_use.NameUse.{NameUse}
use Rattle.mz_scope_names.specs.Uses.{in_tree}
use Rattle.mz_scope_names.specs.Sketches.{decl_sketch, function_sketch}
use Rattle.mz_scope_order.specs.Parts.{place_of, decl_at, function_at}
use Rattle.mz_scope_order.specs.Scoped.{ScopedTree}
use Rattle.mz_scope_order.specs.Subjects.{Subject, of_decl, of_function, IsTypeOrder}
use Rattle.mz_check_meaning.specs.Tests.{Test, ◌>>=◌, ◌>>◌, each}
use Rattle.mz_check_meaning.specs.Models.{Model, Env, outermost, in_output, entry_of, typed_so_far, type_of_decl, heading_of}
use Rattle.mz_check_meaning.specs.Coerced.{condition}
use Rattle.mz_check_meaning.specs.Typing.{check}
use Rattle.mz_check_meaning.specs.Duplicates.{duplicate_after}
use Rattle.mz_check_meaning.specs.Items.{value_of, decl, function, with_params, constraint, integer, objective, goal, texts_fitted, output}
use Rattle.mz_check_meaning.specs.Checks.{numbered, met, none_met, type_met, heading_met, types_met, signed_by, signed, no_fault, decl_met, function_met, tree_met, tree_place, value_place, goal_place, items_met, Sections, sections, untyped}
use Rattle.mz_check_meaning.specs.declared.meaning.Meaning.{Meaning}
use Rattle.mz_check_meaning.specs.declared.meaning.Meaning.TheVariants as meaning
use Rattle.mz_tree.specs.Data.{Given}
use Rattle.mz_check_data.specs.WithData.{declared_as, given_value, given_values, with_values, checked_given, checked_with_data}
use Rattle.mz_analysis.proofs.Alike.{same_case, same_next, same_then, same_all, told, Alike, tree_alike}
use Rattle.mz_analysis.proofs.Meanings.{uses_alike, Calls, functions_call, any_list, IsAt, numbered_at, declared_below}
use Rattle.mz_analysis.proofs.Orders.{T, Agree, same_entries, is_told}

-- ---- lists

flat_same : {A B : Type 0} (K : A → Type 0) (f g : A → List B) → ((x : A) → K x → f x ≡ g x) → (xs : List A) → AllByRecursion K xs → flat_map f xs ≡ flat_map g xs
flat_same K f g go [] h = refl
flat_same K f g go (x ∷ xs) h = ap (λ z. z ++ flat_map f xs) (go x h.0) ∙ ap (λ z. g x ++ z) (flat_same K f g go xs h.1)

both_same : {A : Type 0} (xs ys zs ws : List A) → xs ≡ zs → ys ≡ ws → xs ++ ys ≡ zs ++ ws
both_same xs ys zs ws e f = ap (λ v. v ++ ys) e ∙ ap (λ v. zs ++ v) f

-- what is declared as a declaration is one
declared_is : (at : Span) (o : Option Meaning) (d : ℕ) → declared_as at o ≡ Ok d → o ≡ Some (meaning.Decl d)
unfolding declared_as
declared_is at None d is = absurd (cc)
declared_is at (Some (meaning.Decl k)) d is = let same : k ≡ d = cc in ap (λ z. Some (meaning.Decl z)) same
declared_is at (Some (meaning.Enum e)) d is = absurd (cc)
declared_is at (Some (meaning.Case e k)) d is = absurd (cc)
declared_is at (Some (meaning.Function f)) d is = absurd (cc)

module _ (s : ScopedTree) (table : List (List ℕ)) where
  abbrev b : Model
  b = untyped table s

  module _ (order other : List Subject) (first : IsTypeOrder s order) (second : IsTypeOrder s other) where
    abbrev M : Model
    M = T s table order

    abbrev O : Model
    O = T s table other

    agree : Agree s table order other
    agree = same_entries s table order other first.after second.after

    -- ---- values, bodies and items

    all_alike : (uses : List NameUse) → Alike b M.types O.types M.headings O.headings uses
    all_alike uses =
        uses_alike s table uses M.types O.types M.headings O.headings
        (λ d r. let below : d < length s.decls = (let e = length-map s.decls decl_sketch in let c = r.counted in omega (arith, e, c)) in agree (of_decl d) (first.decls d below) (second.decls d below))
        (λ f r. let below : f < length s.functions = (let e = length-map s.functions function_sketch in let c = r.counted in omega (arith, e, c)) in agree (of_function f) (first.functions f below) (second.functions f below))

    abbrev left : Model
    left = told b M.types M.headings

    abbrev right : Model
    right = told b O.types O.headings

    checked_alike : (e : source.Tree) (env : Env) → check left e env ≡ check right e env
    checked_alike e env = tree_alike b M.types O.types M.headings O.headings [] e (all_alike (in_tree [] e)) env (λ n is. refl)

    value_alike : (t : PlainType) (e : source.Maybe) → value_of left t e ≡ value_of right t e
    value_alike t source.nothing = refl
    value_alike t (source.just e) = same_then (check left e (outermost b)) (check right e (outermost b)) _ (checked_alike e (outermost b))

    decl_alike : (d : ℕ) (x : Declaration) → d < length s.decls → decl left d x ≡ decl right d x
    unfolding decl
    decl_alike d (source.declaration t n at e) below =
        same_next (type_of_decl left at d) (type_of_decl right at d) _ _ (ap (typed_so_far at) (agree (of_decl d) (first.decls d below) (second.decls d below))) (λ u i. same_then (value_of left u.ty e) (value_of right u.ty e) _ (value_alike u.ty e))

    function_alike : (f : ℕ) (x : FunctionTree) → f < length s.functions → function left f x ≡ function right f x
    unfolding function
    function_alike f x below =
        same_next (heading_of left x.span f) (heading_of right x.span f) _ _ (ap (typed_so_far x.span) (agree (of_function f) (first.functions f below) (second.functions f below)))
        (λ h i. same_then (check left x.body (with_params h.params (outermost b))) (check right x.body (with_params h.params (outermost b))) _ (checked_alike x.body (with_params h.params (outermost b))))

    constraint_alike : (e : source.Tree) → constraint left e ≡ constraint right e
    unfolding constraint
    constraint_alike e = same_then (check left e (outermost b)) (check right e (outermost b)) condition (checked_alike e (outermost b))

    objective_alike : (e : source.Tree) → objective left e ≡ objective right e
    objective_alike e = same_then (check left e (outermost b)) (check right e (outermost b)) integer (checked_alike e (outermost b))

    goal_alike : (g : GoalTree) → goal left g ≡ goal right g
    unfolding goal
    goal_alike item.satisfy = refl
    goal_alike (item.minimize e) = same_then (objective left e) (objective right e) (λ o. Ok (minimize o)) (objective_alike e)
    goal_alike (item.maximize e) = same_then (objective left e) (objective right e) (λ o. Ok (maximize o)) (objective_alike e)

    output_alike : (e : source.Tree) → output left e ≡ output right e
    unfolding output
    output_alike e = same_then (check left e (in_output b)) (check right e (in_output b)) texts_fitted (checked_alike e (in_output b))

    -- ---- the whole

    decls_same : flat_map (decl_met left) (numbered s.decls) ≡ flat_map (decl_met right) (numbered s.decls)
    decls_same = flat_same (IsAt s.decls (decl_at [] 0)) (decl_met left) (decl_met right) (λ d h. ap (met (value_place d.1)) (decl_alike d.0 d.1 h.0)) (numbered s.decls) (numbered_at s.decls (decl_at [] 0))

    functions_same : flat_map (function_met left) (numbered s.functions) ≡ flat_map (function_met right) (numbered s.functions)
    functions_same = flat_same (IsAt s.functions (function_at [] 0)) (function_met left) (function_met right) (λ f h. ap (met (tree_place f.1.body)) (function_alike f.0 f.1 h.0)) (numbered s.functions) (numbered_at s.functions (function_at [] 0))

    trees_same : (go ho : source.Tree → Test Tree) → ((e : source.Tree) → go e ≡ ho e) → (es : List source.Tree) → flat_map (tree_met go) es ≡ flat_map (tree_met ho) es
    trees_same go ho same es = flat_same (λ e. Unit {0}) (tree_met go) (tree_met ho) (λ e u. ap (met (tree_place e)) (same e)) es (any_list es)

    items_same : items_met s left ≡ items_met s right
    unfolding items_met
    items_same =
        both_same _ _ _ _ decls_same
        (both_same _ _ _ _ functions_same
        (both_same _ _ _ _ (trees_same (constraint left) (constraint right) constraint_alike s.constraints)
        (both_same _ _ _ _ (flat_same (λ at. Unit {0}) (λ at. met at (goal left s.goal)) (λ at. met at (goal right s.goal)) (λ at u. ap (met at) (goal_alike s.goal)) (goal_place s.goal) (any_list (goal_place s.goal)))
        (trees_same (output left) (output right) output_alike s.outputs))))

    sections_same : sections s left ≡ sections s right
    unfolding sections
    sections_same =
        same_next (each (λ d. decl left d.0 d.1) (numbered s.decls)) (each (λ d. decl right d.0 d.1) (numbered s.decls)) _ _
        (same_all (IsAt s.decls (decl_at [] 0)) (λ d. decl left d.0 d.1) (λ d. decl right d.0 d.1) (λ d h. decl_alike d.0 d.1 h.0) (numbered s.decls) (numbered_at s.decls (decl_at [] 0)))
        (λ ds i. same_next (each (λ f. function left f.0 f.1) (numbered s.functions)) (each (λ f. function right f.0 f.1) (numbered s.functions)) _ _
        (same_all (IsAt s.functions (function_at [] 0)) (λ f. function left f.0 f.1) (λ f. function right f.0 f.1) (λ f h. function_alike f.0 f.1 h.0) (numbered s.functions) (numbered_at s.functions (function_at [] 0)))
        (λ fs j. same_next (each (constraint left) s.constraints) (each (constraint right) s.constraints) _ _ (same_all (λ e. Unit {0}) (constraint left) (constraint right) (λ e u. constraint_alike e) s.constraints (any_list s.constraints))
        (λ cs k. same_next (goal left s.goal) (goal right s.goal) _ _ (goal_alike s.goal)
        (λ g l. same_then (each (output left) s.outputs) (each (output right) s.outputs) _ (same_all (λ e. Unit {0}) (output left) (output right) (λ e u. output_alike e) s.outputs (any_list s.outputs))))))

    signed_same : signed s left ≡ signed s right
    unfolding signed
    signed_same =
        flat_same (Calls s table) (λ f. signed_by s f (entry_of f.1 M.headings)) (λ f. signed_by s f (entry_of f.1 O.headings))
        (λ f h. ap (signed_by s f) (agree (of_function f.1) (first.functions f.1 h.0) (second.functions f.1 h.0))) b.functions (functions_call s table)

    -- ---- data

    given_alike : (g : Given) → given_value left g ≡ given_value right g
    unfolding given_value
    given_alike g =
        same_case (declared_as g.at (entry_of g.name b.names)) _ _
        (λ d is. let below : d < length s.decls = declared_below s table g.name d (declared_is g.at (entry_of g.name b.names) d is) in
        same_then (type_of_decl left g.span d) (type_of_decl right g.span d) _ (ap (typed_so_far g.span) (agree (of_decl d) (first.decls d below) (second.decls d below))))

    all_given_alike : given_values left s.given ≡ given_values right s.given
    unfolding given_values
    all_given_alike = same_all (λ g. Unit {0}) (given_value left) (given_value right) (λ g u. given_alike g) s.given (any_list s.given)

    abbrev rest_of : Model → Test Sections
    rest_of m = no_fault (duplicate_after m.texts [] (signed s m)) >> (given_values m s.given >>= λ vs. none_met (items_met s m) >> (sections s m >>= λ all. Ok (with_values vs all)))

    rest_same : rest_of left ≡ rest_of right
    rest_same =
        same_next (no_fault (duplicate_after b.texts [] (signed s left))) (no_fault (duplicate_after b.texts [] (signed s right))) _ _ (ap (λ fs. no_fault (duplicate_after b.texts [] fs)) signed_same)
        (λ u i. same_next (given_values left s.given) (given_values right s.given) _ _ all_given_alike
        (λ vs k. same_next (none_met (items_met s left)) (none_met (items_met s right)) _ _ (ap none_met items_same)
        (λ v j. same_then (sections s left) (sections s right) (λ all. Ok (with_values vs all)) sections_same)))

    types_same : types_met s left ≡ types_met s right
    unfolding types_met
    types_same =
        both_same _ _ _ _
        (flat_same (IsAt s.decls (decl_at [] 0)) (type_met left) (type_met right) (λ d h. ap (λ o. met (place_of d.1) (typed_so_far (place_of d.1) o)) (agree (of_decl d.0) (first.decls d.0 h.0) (second.decls d.0 h.0))) (numbered s.decls) (numbered_at s.decls (decl_at [] 0)))
        (flat_same (IsAt s.functions (function_at [] 0)) (heading_met left) (heading_met right) (λ f h. ap (λ o. met f.1.span (typed_so_far f.1.span o)) (agree (of_function f.0) (first.functions f.0 h.0) (second.functions f.0 h.0))) (numbered s.functions) (numbered_at s.functions (function_at [] 0)))

    whole : checked_given s left ≡ checked_given s right
    unfolding checked_given
    whole = same_next (none_met (types_met s left)) (none_met (types_met s right)) (λ u. rest_of left) (λ u. rest_of right) (ap none_met types_same) (λ u i. rest_same)

    pub same_verdict : checked_with_data table s order ≡ checked_with_data table s other
    unfolding checked_with_data
    same_verdict = ap (checked_given s) (is_told s table b order) ∙ whole ∙ sym (ap (checked_given s) (is_told s table b other))
