-- How the types of a model, and its data, are refused: with a kind of the tests, at a place in it.
use Rattle.std.proofs.Common.{◌≡◌, ℕ, ◌+◌, zero, suc, Bool, true, false, List, [], ◌∷◌, ◌++◌, subst}
use Rattle.std.specs.Prelude.{Option, Some, None, Ok, Err, if◌then◌else◌, slice_index_or}
use Rattle.std.specs.List.{AllByRecursion, flat_map, enumerate_from}
use Rattle.std.proofs.lemmas.List.Elements.{recursion_from_All, All-nil}
use Rattle.mz_base.specs.declared.fault.Span.{Span}
use Rattle.mz_base.specs.declared.fault.Fault.{Fault}
use Rattle.mz_base.specs.declared.kind.Kind.TheVariants.{DuplicateName, TypeMismatch}
use Rattle.mz_base.specs.Faults.{start_of, fault_at}
use Rattle.mz_core.specs.Tree as core
use Rattle.mz_core.specs.Tree.{Tree, DeclaredType, type_of}
use Rattle.mz_core.specs.Types.{PlainType}
use Rattle.mz_tree.specs.Tree as source
use Rattle.mz_tree.specs.Tree.{Name, Declaration}
use Rattle.mz_tree.specs.Items as item
use Rattle.mz_tree.specs.Items.{FunctionTree, GoalTree}
use Rattle.mz_tree.specs.Data.{Given}
use Rattle.mz_tree.specs.Kinds.{OfTree, OfMaybe, OfDeclaration, OfWritten, OfGoal}
use Rattle.mz_scope_order.specs.Parts.{place_of, decl_at, function_at}
use Rattle.mz_scope_order.specs.Scoped.{ScopedTree}
use Rattle.mz_scope_order.specs.Subjects.{Subject, of_decl, of_function}
use Rattle.mz_check_meaning.specs.Tests.{Test, refuse, loop, each}
use Rattle.mz_check_meaning.specs.Models.{Model, Heading, outermost, in_output, type_of_decl, heading_of, entry_of}
use Rattle.mz_check_meaning.specs.Coerced.{fitted, is_scalar}
use Rattle.mz_check_meaning.specs.Typing.{check, check_written}
use Rattle.mz_check_meaning.specs.Lets.{new_name}
use Rattle.mz_check_meaning.specs.Headings.{Parameters, param_next, heading, written_in, with_type, with_types}
use Rattle.mz_check_meaning.specs.Duplicates.{Signed, is_taken, duplicate_after}
use Rattle.mz_check_meaning.specs.Items.{value_of, decl, function, with_params, constraint, objective, goal, output}
use Rattle.mz_check_meaning.specs.Checks.{numbered, Met, met, first_from, stands_before, none_met, type_met, heading_met, types_met, signed_by, signed, no_fault, decl_met, function_met, tree_met, tree_place, value_place, goal_place, items_met, sections, untyped}
use Rattle.mz_check_meaning.specs.declared.meaning.Meaning.{Meaning}
use Rattle.mz_check_meaning.specs.declared.meaning.Meaning.TheVariants as meaning
use Rattle.mz_check_data.specs.Datum.{Meanings, as_data_form, typed_value}
use Rattle.mz_check_data.specs.WithData.{declared_as, given_value, given_values, checked_given, checked_with_data, IsRefusedWithData}
use Rattle.mz_analysis.specs.Known.{OfFunction, OfGiven, OfScoped}
use Rattle.mz_analysis.proofs.Stopping.{both_all, one_more_all, Refuses, Stops, Any, next, looped, each_stops}
use Rattle.mz_analysis.proofs.Leaves.{At, fitted_stops, condition_stops, IsKnown, type_stops, heading_stops, new_stops}
use Rattle.mz_analysis.proofs.Expressions.{tree_good, type_good}

-- elements with their numbers
numbered_from : {A : Type 0} (K : A → Type 0) (k : ℕ) (xs : List A) → AllByRecursion K xs → AllByRecursion (λ (x : ℕ × A). K x.1) (enumerate_from k xs)
numbered_from K k [] h = tt
numbered_from K k (x ∷ xs) h = (h.0, numbered_from K (k + 1) xs h.1)

flat_all : {A B : Type 0} (K : A → Type 0) (Q : B → Type 0) (f : A → List B) → ((x : A) → K x → AllByRecursion Q (f x)) → (xs : List A) → AllByRecursion K xs → AllByRecursion Q (flat_map f xs)
flat_all K Q f go [] h = tt
flat_all K Q f go (x ∷ xs) h = both_all Q (f x) (flat_map f xs) (go x h.0) (flat_all K Q f go xs h.1)

at_place : {A : Type 0} (K : A → Type 0) (xs : List A) (k : ℕ) (d : A) → AllByRecursion K xs → K d → K (slice_index_or xs k d)
at_place K [] zero d h p = p
at_place K [] (suc k) d h p = p
at_place K (x ∷ xs) zero d h p = h.0
at_place K (x ∷ xs) (suc k) d h p = at_place K xs k d h.1 p

module _ (N : Name → Type 0) (P : Span → Type 0) (start : P (start_of 0)) (first : N 0) where
  abbrev DeclOf : Declaration → Type 0
  DeclOf d = OfDeclaration N P d

  abbrev FunctionOf : FunctionTree → Type 0
  FunctionOf f = OfFunction N P f

  -- a model's parts, as lists by recursion
  record Parts (s : ScopedTree) : Type 0 where
    decls : AllByRecursion DeclOf s.decls
    functions : AllByRecursion FunctionOf s.functions
    constraints : AllByRecursion (OfTree N P) s.constraints
    goal : OfGoal N P s.goal
    outputs : AllByRecursion (OfTree N P) s.outputs
    given : AllByRecursion (OfGiven N P) s.given

  parts_of : (s : ScopedTree) → OfScoped N P s → Parts s
  parts_of s h = record {
    decls = recursion_from_All DeclOf s.decls h.decls;
    functions = recursion_from_All FunctionOf s.functions h.functions;
    constraints = recursion_from_All (OfTree N P) s.constraints h.constraints;
    goal = h.goal;
    outputs = recursion_from_All (OfTree N P) s.outputs h.outputs;
    given = recursion_from_All (OfGiven N P) s.given h.given;
  }

  decl_of_number : (s : ScopedTree) (k : ℕ) → Parts s → DeclOf (decl_at s.decls k)
  unfolding OfTree
  decl_of_number s k h = at_place DeclOf s.decls k _ h.decls (((start, tt, tt), first, start, tt))

  function_of_number : (s : ScopedTree) (k : ℕ) → Parts s → FunctionOf (function_at s.functions k)
  unfolding OfTree
  function_of_number s k h = at_place FunctionOf s.functions k _ h.functions ((first, start, (start, tt, tt), All-nil DeclOf, (start, tt)))

  placed : (d : Declaration) → DeclOf d → P (place_of d)
  unfolding OfTree
  placed (source.declaration t n at e) h = h.2

  typed : (d : Declaration) → DeclOf d → OfWritten N P (written_in d)
  unfolding OfTree
  typed (source.declaration t n at e) h = h.0

  -- ---- types

  param_stops : (m : Model) (k : ℕ) (acc : Parameters) (d : Declaration) → IsKnown P m → DeclOf d → Stops P (Any P) (param_next m k acc d)
  unfolding OfTree
  param_stops m k acc (source.declaration t n at e) known h =
      next P (Any P) (Any P) (check_written m t acc.env) _ (type_good P m known N t h.0 acc.env) (λ u v. next P (Any P) (Any P) (new_name k n at acc.env) _ (new_stops P k n at acc.env h.2) (λ a b. tt))

  heading_good : (m : Model) (f : FunctionTree) → IsKnown P m → FunctionOf f → Stops P (Any P) (heading m f)
  unfolding heading
  heading_good m f known h =
      next P (Any P) (Any P) (loop (param_next m m.count) (record { params = []; env = outermost m }) f.params) _
      (looped P DeclOf (Any P) (param_next m m.count) (λ acc d u k. param_stops m m.count acc d known k) f.params (recursion_from_All DeclOf f.params h.3) (record { params = []; env = outermost m }) tt)
      (λ ps u. next P (Any P) (Any P) (check_written m f.result ps.env) _ (type_good P m known N f.result h.2 ps.env) (λ r v. tt))

  typed_next : (s : ScopedTree) (m : Model) (x : Subject) → Parts s → IsKnown P m → IsKnown P (with_type s m x)
  typed_next s m (of_decl d) h known = record {
    types = one_more_all (λ (t : ℕ × Test DeclaredType). Stops P (Any P) t.1) m.types (d, check_written m (written_in (decl_at s.decls d)) (outermost m)) known.types (type_good P m known N (written_in (decl_at s.decls d)) (typed (decl_at s.decls d) (decl_of_number s d h)) (outermost m));
    headings = known.headings;
  }
  typed_next s m (of_function f) h known = record {
    types = known.types;
    headings = one_more_all (λ (t : ℕ × Test Heading). Stops P (Any P) t.1) m.headings (f, heading m (function_at s.functions f)) known.headings (heading_good m (function_at s.functions f) known (function_of_number s f h));
  }

  all_typed : (s : ScopedTree) (m : Model) (order : List Subject) → Parts s → IsKnown P m → IsKnown P (with_types s m order)
  unfolding with_types
  all_typed s m [] h known = known
  all_typed s m (x ∷ xs) h known = all_typed s (with_type s m x) xs h (typed_next s m x h known)

  -- ---- faults that are met

  abbrev Placed : Met → Type 0
  Placed x = Refuses P x.1

  is_met : {A : Type 0} (Q : A → Type 0) (at : Span) (t : Test A) → Stops P Q t → AllByRecursion Placed (met at t)
  is_met Q at (Ok x) h = tt
  is_met Q at (Err f) h = (h, tt)

  sooner : (b : Bool) (x y : Met) → Placed x → Placed y → Placed (if b then y else x)
  sooner true x y h k = k
  sooner false x y h k = h

  first_placed : (x : Met) (xs : List Met) → Placed x → AllByRecursion Placed xs → Placed (first_from x xs)
  unfolding first_from
  first_placed x [] h k = h
  first_placed x (y ∷ ys) h k = first_placed (if stands_before y.0 x.0 then y else x) ys (sooner (stands_before y.0 x.0) x y h k.0) k.1

  none_stops : (xs : List Met) → AllByRecursion Placed xs → Stops P (Any P) (none_met xs)
  none_stops [] h = tt
  none_stops (x ∷ xs) h = first_placed x xs h.0 h.1

  types_stop : (s : ScopedTree) (m : Model) → Parts s → IsKnown P m → AllByRecursion Placed (types_met s m)
  unfolding types_met
  types_stop s m h known =
      both_all Placed (flat_map (type_met m) (numbered s.decls)) (flat_map (heading_met m) (numbered s.functions))
      (flat_all (λ (d : ℕ × Declaration). DeclOf d.1) Placed (type_met m) (λ d k. is_met (Any P) (place_of d.1) (type_of_decl m (place_of d.1) d.0) (type_stops P m (place_of d.1) d.0 known (placed d.1 k))) (numbered s.decls) (numbered_from DeclOf 0 s.decls h.decls))
      (flat_all (λ (f : ℕ × FunctionTree). FunctionOf f.1) Placed (heading_met m) (λ f k. is_met (Any P) f.1.span (heading_of m f.1.span f.0) (heading_stops P m f.1.span f.0 known k.1)) (numbered s.functions) (numbered_from FunctionOf 0 s.functions h.functions))

  -- ---- functions declared twice

  abbrev SignedAt : Signed → Type 0
  SignedAt f = P f.span

  signed_one : (s : ScopedTree) (f : Name × ℕ) (o : Option (Test Heading)) → Parts s → AllByRecursion SignedAt (signed_by s f o)
  signed_one s f None h = tt
  signed_one s f (Some (Ok x)) h = let k = function_of_number s f.1 h in (k.1, tt)
  signed_one s f (Some (Err e)) h = tt

  any_list : {A : Type 0} (xs : List A) → AllByRecursion (Any P) xs
  any_list [] = tt
  any_list (x ∷ xs) = (tt, any_list xs)

  signed_placed : (s : ScopedTree) (m : Model) → Parts s → AllByRecursion SignedAt (signed s m)
  unfolding signed
  signed_placed s m h = flat_all (Any P) SignedAt (λ f. signed_by s f (entry_of f.1 m.headings)) (λ f u. signed_one s f (entry_of f.1 m.headings) h) m.functions (any_list m.functions)

  taken : (b : Bool) (f : Signed) (later : Option Fault) → P f.span → Stops P (Any P) (no_fault later) → Stops P (Any P) (no_fault (if b then Some (fault_at DuplicateName f.span) else later))
  taken true f later p h = (p, tt)
  taken false f later p h = h

  duplicates_stop : (texts : List (List ℕ)) (before fs : List Signed) → AllByRecursion SignedAt fs → Stops P (Any P) (no_fault (duplicate_after texts before fs))
  unfolding duplicate_after
  duplicates_stop texts before [] h = tt
  duplicates_stop texts before (f ∷ fs) h = taken (is_taken texts before f) f (duplicate_after texts (before ++ f ∷ []) fs) h.0 (duplicates_stop texts (before ++ f ∷ []) fs h.1)

  -- ---- data

  declared_stops : (at : Span) (o : Option Meaning) → P at → Stops P (Any P) (declared_as at o)
  unfolding declared_as
  declared_stops at None p = (p, tt)
  declared_stops at (Some (meaning.Decl d)) p = tt
  declared_stops at (Some (meaning.Enum e)) p = (p, tt)
  declared_stops at (Some (meaning.Case e k)) p = (p, tt)
  declared_stops at (Some (meaning.Function f)) p = (p, tt)

  formed : {A : Type 0} (at : Span) (t : Test A) → P at → Stops P (Any P) (as_data_form at t)
  formed at (Ok x) p = tt
  formed at (Err f) p = (p, tt)

  datum_stops : (ms : Meanings) (u : PlainType) (g : Given) → P g.at → Stops P (Any P) (typed_value ms u g)
  unfolding typed_value
  datum_stops ms u g p = formed g.at _ p

  given_stops : (m : Model) (g : Given) → IsKnown P m → OfGiven N P g → Stops P (Any P) (given_value m g)
  unfolding given_value
  given_stops m g known h =
      next P (Any P) (Any P) (declared_as g.at (entry_of g.name m.names)) _ (declared_stops g.at (entry_of g.name m.names) h.value)
      (λ d u. next P (Any P) (Any P) (type_of_decl m g.span d) _ (type_stops P m g.span d known h.span)
      (λ t v. next P (Any P) (Any P) (typed_value m.names t.ty g) _ (datum_stops m.names t.ty g h.value) (λ e w. tt)))

  all_given_stop : (m : Model) (gs : List Given) → IsKnown P m → AllByRecursion (OfGiven N P) gs → Stops P (AllByRecursion (Any P)) (given_values m gs)
  unfolding given_values
  all_given_stop m gs known h = each_stops P (OfGiven N P) (Any P) (given_value m) (λ g k. given_stops m g known k) gs h

  -- ---- values, bodies and items

  value_stops : (m : Model) (t : PlainType) (e : source.Maybe) → IsKnown P m → OfMaybe N P e → Stops P (Any P) (value_of m t e)
  unfolding OfTree
  value_stops m t source.nothing known h = tt
  value_stops m t (source.just e) known h = next P (At P) (Any P) (check m e (outermost m)) _ (tree_good P m known N e h (outermost m)) (λ v k. next P (At P) (Any P) (fitted v t) _ (fitted_stops P v t k) (λ w j. tt))

  decl_stops : (m : Model) (d : ℕ) (x : Declaration) → IsKnown P m → DeclOf x → Stops P (Any P) (decl m d x)
  unfolding decl OfTree
  decl_stops m d (source.declaration t n at e) known h =
      next P (Any P) (Any P) (type_of_decl m at d) _ (type_stops P m at d known h.2) (λ u v. next P (Any P) (Any P) (value_of m u.ty e) _ (value_stops m u.ty e known h.3) (λ a b. tt))

  function_stops : (m : Model) (k : ℕ) (f : FunctionTree) → IsKnown P m → FunctionOf f → Stops P (Any P) (function m k f)
  unfolding function
  function_stops m k f known h =
      next P (Any P) (Any P) (heading_of m f.span k) _ (heading_stops P m f.span k known h.1)
      (λ hd u. next P (At P) (Any P) (check m f.body (with_params hd.params (outermost m))) _ (tree_good P m known N f.body h.4 (with_params hd.params (outermost m)))
      (λ e j. next P (At P) (Any P) (fitted e hd.result.ty) _ (fitted_stops P e hd.result.ty j) (λ b v. tt)))

  constraint_stops : (m : Model) (e : source.Tree) → IsKnown P m → OfTree N P e → Stops P (At P) (constraint m e)
  unfolding constraint
  constraint_stops m e known h = next P (At P) (At P) (check m e (outermost m)) _ (tree_good P m known N e h (outermost m)) (λ x k. condition_stops P x k)

  objective_stops : (m : Model) (e : source.Tree) → IsKnown P m → OfTree N P e → Stops P (At P) (objective m e)
  objective_stops m e known h = next P (At P) (At P) (check m e (outermost m)) _ (tree_good P m known N e h (outermost m)) (λ x k. fitted_stops P x _ k)

  goal_stops : (m : Model) (g : GoalTree) → IsKnown P m → OfGoal N P g → Stops P (Any P) (goal m g)
  unfolding goal
  goal_stops m item.satisfy known h = tt
  goal_stops m (item.minimize e) known h = next P (At P) (Any P) (objective m e) _ (objective_stops m e known h) (λ o k. tt)
  goal_stops m (item.maximize e) known h = next P (At P) (Any P) (objective m e) _ (objective_stops m e known h) (λ o k. tt)

  texts_stop : (b : Bool) (e : Tree) (t : PlainType) → At P e → Stops P (At P) (if b then refuse TypeMismatch (core.place_of e) else fitted e t)
  texts_stop true e t h = (h, tt)
  texts_stop false e t h = fitted_stops P e t h

  output_stops : (m : Model) (e : source.Tree) → IsKnown P m → OfTree N P e → Stops P (At P) (output m e)
  unfolding output
  output_stops m e known h = next P (At P) (At P) (check m e (in_output m)) _ (tree_good P m known N e h (in_output m)) (λ x k. texts_stop (is_scalar (type_of x)) x _ k)

  -- ---- the whole

  items_stop : (s : ScopedTree) (m : Model) → Parts s → IsKnown P m → AllByRecursion Placed (items_met s m)
  unfolding items_met
  items_stop s m h known =
      both_all Placed (flat_map (decl_met m) (numbered s.decls)) _
      (flat_all (λ (d : ℕ × Declaration). DeclOf d.1) Placed (decl_met m) (λ d k. is_met (Any P) (value_place d.1) (decl m d.0 d.1) (decl_stops m d.0 d.1 known k)) (numbered s.decls) (numbered_from DeclOf 0 s.decls h.decls))
      (both_all Placed (flat_map (function_met m) (numbered s.functions)) _
      (flat_all (λ (f : ℕ × FunctionTree). FunctionOf f.1) Placed (function_met m) (λ f k. is_met (Any P) (tree_place f.1.body) (function m f.0 f.1) (function_stops m f.0 f.1 known k)) (numbered s.functions) (numbered_from FunctionOf 0 s.functions h.functions))
      (both_all Placed (flat_map (tree_met (constraint m)) s.constraints) _
      (flat_all (OfTree N P) Placed (tree_met (constraint m)) (λ e k. is_met (At P) (tree_place e) (constraint m e) (constraint_stops m e known k)) s.constraints h.constraints)
      (both_all Placed (flat_map (λ at. met at (goal m s.goal)) (goal_place s.goal)) _
      (flat_all (Any P) Placed (λ at. met at (goal m s.goal)) (λ at u. is_met (Any P) at (goal m s.goal) (goal_stops m s.goal known h.goal)) (goal_place s.goal) (any_list (goal_place s.goal)))
      (flat_all (OfTree N P) Placed (tree_met (output m)) (λ e k. is_met (At P) (tree_place e) (output m e) (output_stops m e known k)) s.outputs h.outputs))))

  sections_stop : (s : ScopedTree) (m : Model) → Parts s → IsKnown P m → Stops P (Any P) (sections s m)
  unfolding sections
  sections_stop s m h known =
      next P (AllByRecursion (Any P)) (Any P) (each (λ d. decl m d.0 d.1) (numbered s.decls)) _ (each_stops P (λ (d : ℕ × Declaration). DeclOf d.1) (Any P) (λ d. decl m d.0 d.1) (λ d k. decl_stops m d.0 d.1 known k) (numbered s.decls) (numbered_from DeclOf 0 s.decls h.decls))
      (λ ds u. next P (AllByRecursion (Any P)) (Any P) (each (λ f. function m f.0 f.1) (numbered s.functions)) _ (each_stops P (λ (f : ℕ × FunctionTree). FunctionOf f.1) (Any P) (λ f. function m f.0 f.1) (λ f k. function_stops m f.0 f.1 known k) (numbered s.functions) (numbered_from FunctionOf 0 s.functions h.functions))
      (λ fs v. next P (AllByRecursion (At P)) (Any P) (each (constraint m) s.constraints) _ (each_stops P (OfTree N P) (At P) (constraint m) (λ e k. constraint_stops m e known k) s.constraints h.constraints)
      (λ cs w. next P (Any P) (Any P) (goal m s.goal) _ (goal_stops m s.goal known h.goal)
      (λ g x. next P (AllByRecursion (At P)) (Any P) (each (output m) s.outputs) _ (each_stops P (OfTree N P) (At P) (output m) (λ e k. output_stops m e known k) s.outputs h.outputs) (λ os y. tt)))))

  checked_stops : (s : ScopedTree) (m : Model) → Parts s → IsKnown P m → Stops P (Any P) (checked_given s m)
  unfolding checked_given
  checked_stops s m h known =
      next P (Any P) (Any P) (none_met (types_met s m)) _ (none_stops (types_met s m) (types_stop s m h known))
      (λ a u. next P (Any P) (Any P) (no_fault (duplicate_after m.texts [] (signed s m))) _ (duplicates_stop m.texts [] (signed s m) (signed_placed s m h))
      (λ b v. next P (AllByRecursion (Any P)) (Any P) (given_values m s.given) _ (all_given_stop m s.given known h.given)
      (λ vs w. next P (Any P) (Any P) (none_met (items_met s m)) _ (none_stops (items_met s m) (items_stop s m h known))
      (λ c x. next P (Any P) (Any P) (sections s m) _ (sections_stop s m h known) (λ all y. tt)))))

  nothing_known : (texts : List (List ℕ)) (s : ScopedTree) → IsKnown P (untyped texts s)
  unfolding untyped
  nothing_known texts s = record { types = tt; headings = tt }

  at_fault : {A : Type 0} (t : Test A) (f : Fault) → t ≡ Err f → Stops P (Any P) t → Refuses P f
  at_fault (Ok x) f is h = absurd (cc)
  at_fault (Err g) f is h = let same : g ≡ f = cc in subst (λ (x : Fault). Refuses P x) same h

  pub types_placed : (texts : List (List ℕ)) (s : ScopedTree) (f : Fault) → OfScoped N P s → IsRefusedWithData texts s f → Refuses P f
  unfolding checked_with_data
  types_placed texts s f h refused =
      at_fault (checked_given s (with_types s (untyped texts s) refused.order)) f refused.fault
      (checked_stops s (with_types s (untyped texts s) refused.order) (parts_of s h) (all_typed s (untyped texts s) refused.order (parts_of s h) (nothing_known texts s)))
