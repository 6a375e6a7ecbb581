-- The names and places in a scoped model are of the kind of those in the items.
use Rattle.std.proofs.Common.{ℕ, ◌<◌, Bool, true, false, List, [], ◌∷◌, length, map, sym, subst}
use Rattle.std.specs.Prelude.{All, Option, Some, None, if◌then◌else◌, nat_eq}
use Rattle.std.specs.List.{flat_map}
use Rattle.std.proofs.lemmas.List.{length-map}
use Rattle.std.proofs.lemmas.List.Elements.{All-nil, All-cons, All-head, All-tail, All-weaker, All-same}
use Rattle.mz_base.specs.declared.fault.Span.{Span}
use Rattle.mz_tree.specs.Tree as pure
use Rattle.mz_tree.specs.Tree.{Name, Tree, Maybe, Declaration}
use Rattle.mz_tree.specs.Items.{GoalTree, ItemTree, include, declare, assign, constraint, solve, output, function, enum, annotation}
use Rattle.mz_tree.specs.Data.{Given}
use Rattle.mz_tree.specs.Kinds.{IsSpot, OfTree, OfMaybe, OfDeclaration, OfGoal, OfItem}
use Rattle.mz_tree.proofs.Collected.{all_flat}
use Rattle.mz_scope_names.specs.Sketches.{decl_sketch}
use Rattle.mz_scope_order.specs.Parts.{value_in, assigned, or_assigned, filled, declared_in, decls_of, function_in, functions_of, constraint_in, output_in, goal_in, goal_of, enum_in, enums_of, all_cases, given_of, place_of, decl_at}
use Rattle.mz_scope_order.specs.Scoped.{ScopedTree, IsScoped}
use Rattle.mz_scope.proofs.Turned.{all_counted}
use Rattle.mz_analysis.specs.Known.{OfEnum, OfFunction, OfGiven, OfScoped}
use Rattle.mz_analysis.proofs.Items.{all_mapped}
use Rattle.mz_analysis.proofs.DataParts.{cases_given, items_given}

-- the places in the order of evaluation are places of declarations
pub counted : (is : List ItemTree) (gs : List Given) {s : ScopedTree} (h : IsScoped is gs s) → All (λ k. k < length (decls_of is)) h.order
counted is gs h = subst (λ n. All (λ k. k < n) h.order) (length-map (decls_of is) decl_sketch) (all_counted (length (map decl_sketch (decls_of is))) h.order h.sequence.is)

module _ (N : Name → Type 0) (P : Span → Type 0) where
  abbrev Item : ItemTree → Type 0
  Item i = OfItem N P i

  abbrev Decl : Declaration → Type 0
  Decl d = OfDeclaration N P d

  one : {A : Type 0} (K : A → Type 0) (x : A) → K x → All K (x ∷ [])
  one K x h = All-cons K x [] h (All-nil K)

  -- declarations, with the values that assignments give

  later_value : (b : Bool) (e : Tree) (later : Maybe) → OfTree N P e → OfMaybe N P later → OfMaybe N P (if b then pure.just e else later)
  unfolding OfTree
  later_value true e later h k = h
  later_value false e later h k = k

  value_of : (n : Name) (i : ItemTree) (later : Maybe) → Item i → OfMaybe N P later → OfMaybe N P (value_in n i later)
  value_of n (assign m s e) later h k = later_value (nat_eq n m) e later h.2 k
  value_of n (include m s) later h k = k
  value_of n (declare d) later h k = k
  value_of n (constraint e) later h k = k
  value_of n (solve s g) later h k = k
  value_of n (output e) later h k = k
  value_of n (function f) later h k = k
  value_of n (enum m s cs) later h k = k
  value_of n (annotation m) later h k = k

  assigned_of : (n : Name) (is : List ItemTree) → All Item is → OfMaybe N P (assigned n is)
  unfolding assigned OfTree
  assigned_of n [] h = tt
  assigned_of n (i ∷ is) h = value_of n i (assigned n is) (All-head Item i is h) (assigned_of n is (All-tail Item i is h))

  or_of : (e later : Maybe) → OfMaybe N P e → OfMaybe N P later → OfMaybe N P (or_assigned e later)
  or_of pure.nothing later h k = k
  or_of (pure.just e) later h k = h

  filled_of : (is : List ItemTree) → All Item is → (d : Declaration) → Decl d → Decl (filled is d)
  unfolding OfTree
  filled_of is all (pure.declaration t n s e) h = (h.0, h.1, h.2, or_of e (assigned n is) h.3 (assigned_of n is all))

  declared_of : (i : ItemTree) → Item i → All Decl (declared_in i)
  declared_of (declare d) h = one Decl d h
  declared_of (include m s) h = All-nil Decl
  declared_of (assign m s e) h = All-nil Decl
  declared_of (constraint e) h = All-nil Decl
  declared_of (solve s g) h = All-nil Decl
  declared_of (output e) h = All-nil Decl
  declared_of (function f) h = All-nil Decl
  declared_of (enum m s cs) h = All-nil Decl
  declared_of (annotation m) h = All-nil Decl

  pub decls : (is : List ItemTree) → All Item is → All Decl (decls_of is)
  decls is all =
      all_mapped Decl (filled is) (flat_map declared_in is)
      (All-weaker Decl (λ d. Decl (filled is d)) (filled_of is all) (flat_map declared_in is) (all_flat Decl Item declared_in declared_of is all))

  pub placed : (d : Declaration) → Decl d → P (place_of d)
  unfolding OfTree
  placed (pure.declaration t n s e) h = h.2

  -- the other parts

  function_of : (i : ItemTree) → Item i → All (OfFunction N P) (function_in i)
  function_of (function f) h = one (OfFunction N P) f h
  function_of (declare d) h = All-nil (OfFunction N P)
  function_of (include m s) h = All-nil (OfFunction N P)
  function_of (assign m s e) h = All-nil (OfFunction N P)
  function_of (constraint e) h = All-nil (OfFunction N P)
  function_of (solve s g) h = All-nil (OfFunction N P)
  function_of (output e) h = All-nil (OfFunction N P)
  function_of (enum m s cs) h = All-nil (OfFunction N P)
  function_of (annotation m) h = All-nil (OfFunction N P)

  pub functions : (is : List ItemTree) → All Item is → All (OfFunction N P) (functions_of is)
  functions is all = all_flat (OfFunction N P) Item function_in function_of is all

  constraint_of : (i : ItemTree) → Item i → All (OfTree N P) (constraint_in i)
  constraint_of (constraint e) h = one (OfTree N P) e h
  constraint_of (function f) h = All-nil (OfTree N P)
  constraint_of (declare d) h = All-nil (OfTree N P)
  constraint_of (include m s) h = All-nil (OfTree N P)
  constraint_of (assign m s e) h = All-nil (OfTree N P)
  constraint_of (solve s g) h = All-nil (OfTree N P)
  constraint_of (output e) h = All-nil (OfTree N P)
  constraint_of (enum m s cs) h = All-nil (OfTree N P)
  constraint_of (annotation m) h = All-nil (OfTree N P)

  output_of : (i : ItemTree) → Item i → All (OfTree N P) (output_in i)
  output_of (output e) h = one (OfTree N P) e h
  output_of (constraint e) h = All-nil (OfTree N P)
  output_of (function f) h = All-nil (OfTree N P)
  output_of (declare d) h = All-nil (OfTree N P)
  output_of (include m s) h = All-nil (OfTree N P)
  output_of (assign m s e) h = All-nil (OfTree N P)
  output_of (solve s g) h = All-nil (OfTree N P)
  output_of (enum m s cs) h = All-nil (OfTree N P)
  output_of (annotation m) h = All-nil (OfTree N P)

  goal_next : (i : ItemTree) (later : GoalTree) → Item i → OfGoal N P later → OfGoal N P (goal_in i later)
  goal_next (solve s g) later h k = h.1
  goal_next (include m s) later h k = k
  goal_next (declare d) later h k = k
  goal_next (assign m s e) later h k = k
  goal_next (constraint e) later h k = k
  goal_next (output e) later h k = k
  goal_next (function f) later h k = k
  goal_next (enum m s cs) later h k = k
  goal_next (annotation m) later h k = k

  goals : (is : List ItemTree) → All Item is → OfGoal N P (goal_of is)
  unfolding goal_of
  goals [] all = tt
  goals (i ∷ is) all = goal_next i (goal_of is) (All-head Item i is all) (goals is (All-tail Item i is all))

  cases_of : (gs : List Given) → All (OfGiven N P) gs → (n : Name) (s : Span) (cs : Option (List (Name × Span))) → Item (enum n s cs) → All (IsSpot N P) (all_cases n gs cs)
  cases_of gs known n s None h = cases_given N P n gs known
  cases_of gs known n s (Some cs) h = h.2

  enum_of : (gs : List Given) → All (OfGiven N P) gs → (i : ItemTree) → Item i → All (OfEnum N P) (enum_in gs i)
  enum_of gs known (enum n s cs) h = one (OfEnum N P) (record { name = n; span = s; cases = all_cases n gs cs }) (h.0, h.1, cases_of gs known n s cs h)
  enum_of gs known (output e) h = All-nil (OfEnum N P)
  enum_of gs known (constraint e) h = All-nil (OfEnum N P)
  enum_of gs known (function f) h = All-nil (OfEnum N P)
  enum_of gs known (declare d) h = All-nil (OfEnum N P)
  enum_of gs known (include m s) h = All-nil (OfEnum N P)
  enum_of gs known (assign m s e) h = All-nil (OfEnum N P)
  enum_of gs known (solve s g) h = All-nil (OfEnum N P)
  enum_of gs known (annotation m) h = All-nil (OfEnum N P)

  -- in an order of evaluation

  turned : (ds : List Declaration) (order : List ℕ) → All Decl ds → All (λ k. k < length ds) order → All Decl (map (decl_at ds) order)
  turned ds order all counted = all_mapped Decl (decl_at ds) order (All-weaker (λ k. k < length ds) (λ k. Decl (decl_at ds k)) (λ k below. all k _ below) order counted)

  pub of_scoped : (is : List ItemTree) (gs : List Given) (s : ScopedTree) → All Item is → All (OfGiven N P) gs → IsScoped is gs s → OfScoped N P s
  of_scoped is gs s all known h = record {
    enums = All-same (OfEnum N P) s.enums (enums_of is gs) h.enums (all_flat (OfEnum N P) Item (enum_in gs) (enum_of gs known) is all);
    decls = All-same Decl s.decls (map (decl_at (decls_of is)) h.order) h.decls (turned (decls_of is) h.order (decls is all) (counted is gs h));
    functions = All-same (OfFunction N P) s.functions (functions_of is) h.functions (functions is all);
    constraints = All-same (OfTree N P) s.constraints (flat_map constraint_in is) h.constraints (all_flat (OfTree N P) Item constraint_in constraint_of is all);
    goal = subst (OfGoal N P) (sym h.goal) (goals is all);
    outputs = All-same (OfTree N P) s.outputs (flat_map output_in is) h.outputs (all_flat (OfTree N P) Item output_in output_of is all);
    given = All-same (OfGiven N P) s.given (given_of is gs) h.given (items_given N P is gs known);
  }
