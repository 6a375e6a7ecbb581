-- A scoped model whose names and those of its data are of a table may be typed.
use Rattle.std.proofs.Common.{ℕ, ◌<◌, Bool, true, false, List, [], ◌∷◌, ◌++◌, length, map, sym, subst}
use Rattle.std.specs.Prelude.{All, Option, Some, None, if◌then◌else◌, nat_eq}
use Rattle.std.specs.List.{flat_map}
use Rattle.std.proofs.lemmas.List.{length-map}
use Rattle.std.proofs.lemmas.List.Elements.{All-nil, All-cons, All-head, All-tail, All-weaker, All-same}
use Rattle.mz_base.specs.declared.fault.Span.{Span}
use Rattle.mz_tree.specs.Tree.{Name, Tree, Declaration}
use Rattle.mz_tree.specs.Items.{GoalTree, satisfy, minimize, maximize, FunctionTree, ItemTree, include, declare, assign, constraint, solve, output, function, enum, annotation}
use Rattle.mz_tree.specs.Data as pure
use Rattle.mz_tree.specs.Data.{Value, Values, Given}
use Rattle.mz_tree.specs.Kinds.{IsSpot, OfTree, OfDeclaration, OfGoal, OfItem}
use Rattle.mz_tree.proofs.Later.{item_later}
use Rattle.mz_tree.proofs.Collected.{all_flat}
use Rattle.mz_scope_names.specs.Given.{identifier, with_identifier, identifiers, cases_in}
use Rattle.mz_scope_names.specs.Sketches.{decl_sketch}
use Rattle.mz_tree.specs.Named.{names_in, names_in_all, IsGivenWithin}
use Rattle.mz_scope_order.specs.Parts.{decls_of, decl_at, functions_of, constraint_in, output_in, goal_in, goal_of, enum_in, enums_of, cases_at, given_cases}
use Rattle.mz_scope_order.specs.Scoped.{ScopedTree, IsScoped}
use Rattle.mz_scope.proofs.Turned.{all_counted}
use Rattle.mz_analysis.specs.Known.{OfFunction}
use Rattle.mz_analysis.proofs.Items.{all_mapped}
use Rattle.mz_analysis.proofs.Parts as parts
use Rattle.mz_check_exprs.specs.Naming.{IsNamed}
use Rattle.mz_check_exprs.specs.NamedModels.{IsNamedDeclaration, IsNamedGoal, IsNamedFunction, HasNamedCases, AreNamed}

module _ (k files : ℕ) where
  abbrev N : Name → Type 0
  N n = n < k

  abbrev P : Span → Type 0
  P s = s.file < files

  anywhere : (i : ItemTree) → OfItem N P i → OfItem N (λ s. Unit {0}) i
  anywhere i h = item_later N N P (λ s. Unit {0}) (λ n g. g) (λ s g. tt) i h

  tree_named : (e : Tree) → OfTree N P e → IsNamed k e
  tree_named e h = anywhere (constraint e) h

  declaration_named : (d : Declaration) → OfDeclaration N P d → IsNamedDeclaration k d
  declaration_named d h = anywhere (declare d) h

  function_named : (f : FunctionTree) → OfFunction N P f → IsNamedFunction k f
  function_named f h = let g = anywhere (function f) h in record { name = g.0; params = g.3; result = g.2; body = g.4 }

  goal_named : (g : GoalTree) → OfGoal N P g → IsNamedGoal k g
  goal_named satisfy h = tt
  goal_named (minimize e) h = tree_named e h
  goal_named (maximize e) h = tree_named e h

  -- ---- cases from data

  abbrev Item : ItemTree → Type 0
  Item i = OfItem N P i

  abbrev IsCase : Name × Span → Type 0
  IsCase c = c.0 < k

  abbrev AreThere : Option (List Name) → Type 0
  AreThere None = Unit {0}
  AreThere (Some ns) = All N ns

  front : (ns ms : List Name) → All N (ns ++ ms) → All N ns
  front [] ms h = All-nil N
  front (n ∷ ns) ms h = All-cons N n ns (All-head N n (ns ++ ms) h) (front ns ms (All-tail N n (ns ++ ms) h))

  back : (ns ms : List Name) → All N (ns ++ ms) → All N ms
  back [] ms h = h
  back (n ∷ ns) ms h = back ns ms (All-tail N n (ns ++ ms) h)

  one_more : (n : Name) (ns : Option (List Name)) → N n → AreThere ns → AreThere (with_identifier (Some n) ns)
  one_more n None h there = tt
  one_more n (Some ns) h there = All-cons N n ns h there

  next_there : (v : Value) (ns : Option (List Name)) → All N (names_in v) → AreThere ns → AreThere (with_identifier (identifier v) ns)
  unfolding names_in
  next_there (pure.ident n) ns h there = one_more n ns (All-head N n [] h) there
  next_there (pure.bool b) ns h there = tt
  next_there (pure.int z) ns h there = tt
  next_there pure.absent ns h there = tt
  next_there (pure.range v w) ns h there = tt
  next_there (pure.set vs) ns h there = tt
  next_there (pure.array vs) ns h there = tt
  next_there (pure.rows ls) ns h there = tt
  next_there (pure.array_nd ss vs) ns h there = tt

  all_there : (vs : Values) → All N (names_in_all vs) → AreThere (identifiers vs)
  unfolding names_in identifiers
  all_there pure.no_values h = All-nil N
  all_there (pure.a_value v vs) h = next_there v (identifiers vs) (front (names_in v) (names_in_all vs) h) (all_there vs (back (names_in v) (names_in_all vs) h))

  cases_there : (v : Value) → All N (names_in v) → AreThere (cases_in v)
  unfolding names_in cases_in
  cases_there (pure.set vs) h = all_there vs h
  cases_there (pure.array vs) h = all_there vs h
  cases_there (pure.ident n) h = tt
  cases_there (pure.bool b) h = tt
  cases_there (pure.int z) h = tt
  cases_there pure.absent h = tt
  cases_there (pure.range v w) h = tt
  cases_there (pure.rows ls) h = tt
  cases_there (pure.array_nd ss vs) h = tt

  placed_at : (at : Span) (ns : Option (List Name)) → AreThere ns → All IsCase (cases_at at ns)
  placed_at at None h = All-nil IsCase
  placed_at at (Some ns) h = all_mapped IsCase (λ n. (n, at)) ns h

  either : (b : Bool) (xs ys : List (Name × Span)) → All IsCase xs → All IsCase ys → All IsCase (if b then xs else ys)
  either true xs ys h g = h
  either false xs ys h g = g

  given_there : (n : Name) (ds : List Given) → All (IsGivenWithin k) ds → All IsCase (given_cases n ds)
  unfolding given_cases
  given_there n [] h = All-nil IsCase
  given_there n (d ∷ ds) h =
      either (nat_eq n d.name) (cases_at d.at (cases_in d.value)) (given_cases n ds)
      (placed_at d.at (cases_in d.value) (cases_there d.value (All-head (IsGivenWithin k) d ds h).names)) (given_there n ds (All-tail (IsGivenWithin k) d ds h))

  one : {A : Type 0} (K : A → Type 0) (x : A) → K x → All K (x ∷ [])
  one K x h = All-cons K x [] h (All-nil K)

  module _ (ds : List Given) (within : All (IsGivenWithin k) ds) where
    enum_named : (i : ItemTree) → Item i → All (HasNamedCases k) (enum_in ds i)
    enum_named (enum n s None) h = one (HasNamedCases k) (record { name = n; span = s; cases = given_cases n ds }) (given_there n ds within)
    enum_named (enum n s (Some cs)) h = one (HasNamedCases k) (record { name = n; span = s; cases = cs }) (All-weaker (IsSpot N P) IsCase (λ c g. g.0) cs h.2)
    enum_named (output e) h = All-nil (HasNamedCases k)
    enum_named (constraint e) h = All-nil (HasNamedCases k)
    enum_named (function f) h = All-nil (HasNamedCases k)
    enum_named (declare d) h = All-nil (HasNamedCases k)
    enum_named (include m s) h = All-nil (HasNamedCases k)
    enum_named (assign m s e) h = All-nil (HasNamedCases k)
    enum_named (solve s g) h = All-nil (HasNamedCases k)
    enum_named (annotation m) h = All-nil (HasNamedCases k)

  constraint_named : (i : ItemTree) → Item i → All (IsNamed k) (constraint_in i)
  constraint_named (constraint e) h = one (IsNamed k) e (tree_named e h)
  constraint_named (output e) h = All-nil (IsNamed k)
  constraint_named (function f) h = All-nil (IsNamed k)
  constraint_named (declare d) h = All-nil (IsNamed k)
  constraint_named (include m s) h = All-nil (IsNamed k)
  constraint_named (assign m s e) h = All-nil (IsNamed k)
  constraint_named (solve s g) h = All-nil (IsNamed k)
  constraint_named (enum n s cs) h = All-nil (IsNamed k)
  constraint_named (annotation m) h = All-nil (IsNamed k)

  output_named : (i : ItemTree) → Item i → All (IsNamed k) (output_in i)
  output_named (output e) h = one (IsNamed k) e (tree_named e h)
  output_named (constraint e) h = All-nil (IsNamed k)
  output_named (function f) h = All-nil (IsNamed k)
  output_named (declare d) h = All-nil (IsNamed k)
  output_named (include m s) h = All-nil (IsNamed k)
  output_named (assign m s e) h = All-nil (IsNamed k)
  output_named (solve s g) h = All-nil (IsNamed k)
  output_named (enum n s cs) h = All-nil (IsNamed k)
  output_named (annotation m) h = All-nil (IsNamed k)

  goal_next : (i : ItemTree) (later : GoalTree) → Item i → IsNamedGoal k later → IsNamedGoal k (goal_in i later)
  goal_next (solve s g) later h next = goal_named g h.1
  goal_next (output e) later h next = next
  goal_next (constraint e) later h next = next
  goal_next (function f) later h next = next
  goal_next (declare d) later h next = next
  goal_next (include m s) later h next = next
  goal_next (assign m s e) later h next = next
  goal_next (enum n s cs) later h next = next
  goal_next (annotation m) later h next = next

  goal_of_all : (is : List ItemTree) → All Item is → IsNamedGoal k (goal_of is)
  unfolding goal_of
  goal_of_all [] all = tt
  goal_of_all (i ∷ is) all = goal_next i (goal_of is) (All-head Item i is all) (goal_of_all is (All-tail Item i is all))

  decls_named : (ds : List Declaration) → All (OfDeclaration N P) ds → All (IsNamedDeclaration k) ds
  decls_named ds h = All-weaker (OfDeclaration N P) (IsNamedDeclaration k) declaration_named ds h

  turned : (ds : List Declaration) (order : List ℕ) → All (IsNamedDeclaration k) ds → All (λ i. i < length ds) order → All (IsNamedDeclaration k) (map (decl_at ds) order)
  turned ds order all counted = all_mapped (IsNamedDeclaration k) (decl_at ds) order (All-weaker (λ i. i < length ds) (λ i. IsNamedDeclaration k (decl_at ds i)) (λ i below. all i _ below) order counted)

  pub data_named : (is : List ItemTree) (ds : List Given) (s : ScopedTree) → All Item is → All (IsGivenWithin k) ds → IsScoped is ds s → AreNamed k s
  data_named is ds s all within h =
      let counted = subst (λ n. All (λ i. i < n) h.order) (length-map (decls_of is) decl_sketch) (all_counted (length (map decl_sketch (decls_of is))) h.order h.sequence.is) in
      record {
        enums = All-same (HasNamedCases k) s.enums (enums_of is ds) h.enums (all_flat (HasNamedCases k) Item (enum_in ds) (enum_named ds within) is all);
        decls = All-same (IsNamedDeclaration k) s.decls (map (decl_at (decls_of is)) h.order) h.decls (turned (decls_of is) h.order (decls_named (decls_of is) (parts.decls N P is all)) counted);
        functions = All-same (IsNamedFunction k) s.functions (functions_of is) h.functions (All-weaker (OfFunction N P) (IsNamedFunction k) function_named (functions_of is) (parts.functions N P is all));
        constraints = All-same (IsNamed k) s.constraints (flat_map constraint_in is) h.constraints (all_flat (IsNamed k) Item constraint_in constraint_named is all);
        goal = subst (IsNamedGoal k) (sym h.goal) (goal_of_all is all);
        outputs = All-same (IsNamed k) s.outputs (flat_map output_in is) h.outputs (all_flat (IsNamed k) Item output_in output_named is all);
      }
