-- The nodes of what a scoped model is typed to with its data are so, where the texts in the model are allowed.
use Rattle.std.proofs.Common.{ℕ, suc, ◌+◌, Bool, true, false, cond, List, [], ◌∷◌, ◌++◌, Option, Some, None, Ok, arith}
use Rattle.std.specs.Prelude.{All, nat_eq, if◌then◌else◌}
use Rattle.std.specs.List.{enumerate_from}
use Rattle.mz_base.specs.declared.fault.Span.{Span}
use Rattle.mz_base.specs.declared.kind.Kind.TheVariants as kind
use Rattle.mz_core.specs.declared.types.Base.TheVariants as base
use Rattle.mz_core.specs.Types.{PlainType}
use Rattle.mz_core.specs.Tree.{Tree, Decl, DeclaredType, type_of, place_of}
use Rattle.mz_core.specs.Program.{Function, Goal, satisfy, minimize, maximize}
use Rattle.mz_tree.specs.Tree as source
use Rattle.mz_tree.specs.Tree.{Declaration, Maybe}
use Rattle.mz_tree.specs.Items as item
use Rattle.mz_tree.specs.Items.{FunctionTree, GoalTree}
use Rattle.mz_tree.specs.Kinds.{OfTree, OfMaybe}
use Rattle.mz_scope_order.specs.Parts.{decl_at, function_at}
use Rattle.mz_scope_order.specs.Scoped.{ScopedTree}
use Rattle.mz_scope_order.specs.Subjects.{Subject, of_decl, of_function}
use Rattle.mz_check_meaning.specs.Tests.{Test, ◌>>=◌, ◌>>◌, refuse, loop, each}
use Rattle.mz_check_meaning.specs.Models.{Model, Heading, entry_of, typed_so_far, type_of_decl, heading_of, outermost, in_output, bind}
use Rattle.mz_check_meaning.specs.Coerced.{fitted, condition, as_var, is_scalar}
use Rattle.mz_check_meaning.specs.Lets.{new_name, decl_of}
use Rattle.mz_check_meaning.specs.Typing.{check, check_written}
use Rattle.mz_check_meaning.specs.Headings.{Parameters, param_next, heading, written_in, with_type, with_types}
use Rattle.mz_check_meaning.specs.Items.{value_of, decl, with_params, function, constraint, objective, goal, texts_like, texts_fitted, output}
use Rattle.mz_check_meaning.specs.Duplicates.{duplicate_after}
use Rattle.mz_check_meaning.specs.Checks.{numbered, none_met, types_met, items_met, no_fault, signed, untyped, Sections, sections}
use Rattle.mz_check_data.specs.WithData.{given_values, with_values, checked_given, checked_with_data}
use Rattle.mz_check_data.proofs.Data.{IsKeptGiven, values_kept, decls_kept}
use Rattle.mz_check_meaning.proofs.Giving.{AllBy, all_both, Gives, gives_then, gives_after, loop_gives, each_gives}
use Rattle.mz_check_meaning.proofs.Rules.{Rules}
use Rattle.mz_check_meaning.proofs.Leaves.{IsKept, AreKept, IsKeptMaybe, IsKeptType, IsKeptDecl, fitted_kept, condition_kept}
use Rattle.mz_check_meaning.proofs.Typed.{tree_keeps, written_keeps}
use Rattle.mz_tree.proofs.Anything.{AnyPlace}
use Rattle.mz_tree.specs.Tree.{Written}
use Rattle.mz_tree.specs.Kinds.{OfDeclaration, OfWritten, OfGoal}

module _ (rules : Rules) where
  -- ---- the texts in a model are allowed

  abbrev pub AllowsTree : source.Tree → Type 0
  AllowsTree e = OfTree rules.allows AnyPlace e

  abbrev pub AllowsWritten : Written → Type 0
  AllowsWritten t = OfWritten rules.allows AnyPlace t

  abbrev pub AllowsDeclaration : Declaration → Type 0
  AllowsDeclaration d = OfDeclaration rules.allows AnyPlace d

  abbrev pub AllowsGoal : GoalTree → Type 0
  AllowsGoal g = OfGoal rules.allows AnyPlace g

  pub record AllowsFunction (f : FunctionTree) : Type 0 where
    pub params : All AllowsDeclaration f.params
    pub result : AllowsWritten f.result
    pub body : AllowsTree f.body

  abbrev pub AllowsSubject : ScopedTree → Subject → Type 0
  AllowsSubject s (of_decl d) = AllowsWritten (written_in (decl_at s.decls d))
  AllowsSubject s (of_function f) = AllowsFunction (function_at s.functions f)

  pub record AllowsModel (s : ScopedTree) : Type 0 where
    pub decls : All AllowsDeclaration s.decls
    pub functions : All AllowsFunction s.functions
    pub constraints : All AllowsTree s.constraints
    pub goal : AllowsGoal s.goal
    pub outputs : All AllowsTree s.outputs

  -- ---- the typed parts of a model

  abbrev pub IsKeptHeading : Heading → Type 0
  IsKeptHeading h = AllBy (IsKeptDecl rules) h.params × IsKeptType rules h.result

  abbrev pub IsKeptFunction : Function → Type 0
  IsKeptFunction f = AllBy (IsKeptDecl rules) f.params × (IsKeptType rules f.result × IsKept rules f.body)

  abbrev pub IsKeptGoal : Goal → Type 0
  IsKeptGoal satisfy = Unit {0}
  IsKeptGoal (minimize e) = IsKept rules e
  IsKeptGoal (maximize e) = IsKept rules e

  pub record AreKeptSections (all : Sections) : Type 0 where
    pub decls : AllBy (IsKeptDecl rules) all.decls
    pub functions : AllBy IsKeptFunction all.functions
    pub constraints : AreKept rules all.constraints
    pub goal : IsKeptGoal all.goal
    pub outputs : AreKept rules all.outputs

  -- ---- tables of types

  pub record AreKeptTables (m : Model) : Type 0 where
    pub types : AllBy (λ e. Gives e.1 (IsKeptType rules)) m.types
    pub headings : AllBy (λ e. Gives e.1 IsKeptHeading) m.headings

  param_kept : (m : Model) (start : ℕ) (s : Parameters) (d : Declaration) → AllowsDeclaration d → AllBy (IsKeptDecl rules) s.params → Gives (param_next m start s d) (λ p. AllBy (IsKeptDecl rules) p.params)
  unfolding OfTree
  param_kept m start s (source.declaration t n at e) h all =
      let last : DeclaredType → Test Parameters = λ u. Ok (record { params = s.params ++ decl_of s.env n at u None ∷ []; env = bind n u.ty s.env }) in
      gives_then (IsKeptType rules) (λ p. AllBy (IsKeptDecl rules) p.params) (check_written m t s.env) (λ u. new_name start n at s.env >> last u) (written_keeps rules m t h.0 s.env) (λ u l.
      gives_after (λ p. AllBy (IsKeptDecl rules) p.params) (new_name start n at s.env) (λ v. last u) (λ v.
      all_both (IsKeptDecl rules) s.params (decl_of s.env n at u None ∷ []) all ((l, tt), tt)))

  params_kept : (m : Model) (start : ℕ) (ds : List Declaration) → All (AllowsDeclaration) ds → AllBy (λ d. (s : Parameters) → AllBy (IsKeptDecl rules) s.params → Gives (param_next m start s d) (λ p. AllBy (IsKeptDecl rules) p.params)) ds
  params_kept m start [] h = tt
  params_kept m start (d ∷ ds) h = ((λ s all. param_kept m start s d (h 0 d (omega arith)) all), params_kept m start ds (λ i e low. h (suc i) e (omega (arith, low))))

  heading_kept : (m : Model) (f : FunctionTree) → AllowsFunction f → Gives (heading m f) IsKeptHeading
  unfolding heading
  heading_kept m f h =
      let last : Parameters → DeclaredType → Test Heading = λ ps r. Ok (record { params = ps.params; result = r }) in
      gives_then (λ p. AllBy (IsKeptDecl rules) p.params) IsKeptHeading (loop (param_next m m.count) (record { params = []; env = outermost m }) f.params) (λ ps. check_written m f.result ps.env >>= λ r. last ps r)
      (loop_gives (λ p. AllBy (IsKeptDecl rules) p.params) (param_next m m.count) (record { params = []; env = outermost m }) f.params tt (params_kept m m.count f.params h.params)) (λ ps l.
      gives_then (IsKeptType rules) IsKeptHeading (check_written m f.result ps.env) (last ps) (written_keeps rules m f.result h.result ps.env) (λ r t. (l, t)))

  one_typed : (s : ScopedTree) (m : Model) (x : Subject) → AllowsSubject s x → AreKeptTables m → AreKeptTables (with_type s m x)
  one_typed s m (of_decl d) h t = record {
    types = all_both (λ e. Gives e.1 (IsKeptType rules)) m.types ((d, check_written m (written_in (decl_at s.decls d)) (outermost m)) ∷ []) t.types
        (written_keeps rules m (written_in (decl_at s.decls d)) h (outermost m), tt);
    headings = t.headings;
  }
  one_typed s m (of_function f) h t = record {
    types = t.types;
    headings = all_both (λ e. Gives e.1 IsKeptHeading) m.headings ((f, heading m (function_at s.functions f)) ∷ []) t.headings
        (heading_kept m (function_at s.functions f) h, tt);
  }

  all_typed : (s : ScopedTree) (m : Model) (xs : List Subject) → AllBy (AllowsSubject s) xs → AreKeptTables m → AreKeptTables (with_types s m xs)
  unfolding with_types
  all_typed s m [] h t = t
  all_typed s m (x ∷ xs) h t = all_typed s (with_type s m x) xs h.1 (one_typed s m x h.0 t)

  none_typed : (texts : List (List ℕ)) (s : ScopedTree) → AreKeptTables (untyped texts s)
  unfolding untyped
  none_typed texts s = record { types = tt; headings = tt }

  found_case : {A : Type 0} (Q : A → Type 0) (at : Span) (b : Bool) (t : Test A) (o : Option (Test A)) → Gives t Q → Gives (typed_so_far at o) Q → Gives (typed_so_far at (cond b (Some t) o)) Q
  found_case Q at true t o h l = h
  found_case Q at false t o h l = l

  found_kept : {A : Type 0} (Q : A → Type 0) (at : Span) (n : ℕ) (es : List (ℕ × Test A)) → AllBy (λ e. Gives e.1 Q) es → Gives (typed_so_far at (entry_of n es)) Q
  unfolding entry_of
  found_kept Q at n [] h = tt
  found_kept Q at n (e ∷ es) h = found_case Q at (nat_eq e.0 n) e.1 (entry_of n es) h.0 (found_kept Q at n es h.1)

  -- ---- values, bodies and items

  module _ (m : Model) (tables : AreKeptTables m) where
    value_kept : (t : PlainType) (e : Maybe) → OfMaybe rules.allows AnyPlace e → Gives (value_of m t e) (IsKeptMaybe rules)
    unfolding OfTree
    value_kept t source.nothing h = tt
    value_kept t (source.just e) h =
        gives_then (IsKept rules) (IsKeptMaybe rules) (check m e (outermost m)) (λ v. fitted v t >>= λ w. Ok (Some w)) (tree_keeps rules m e h (outermost m)) (λ v l.
        gives_then (IsKept rules) (IsKeptMaybe rules) (fitted v t) (λ w. Ok (Some w)) (fitted_kept rules v t l) (λ w r. r))

    decl_kept : (d : ℕ) (x : Declaration) → AllowsDeclaration x → Gives (decl m d x) (IsKeptDecl rules)
    unfolding decl OfTree
    decl_kept d (source.declaration t n at e) h =
        gives_then (IsKeptType rules) (IsKeptDecl rules) (type_of_decl m at d) (λ u. value_of m u.ty e >>= λ v. Ok (record { slot = d; name = n; span = at; ty = u; value = v })) (found_kept (IsKeptType rules) at d m.types tables.types) (λ u l.
        gives_then (IsKeptMaybe rules) (IsKeptDecl rules) (value_of m u.ty e) (λ v. Ok (record { slot = d; name = n; span = at; ty = u; value = v })) (value_kept u.ty e h.3) (λ v r. (l, r)))

    function_kept : (i : ℕ) (f : FunctionTree) → AllowsFunction f → Gives (function m i f) IsKeptFunction
    unfolding function
    function_kept i f h =
        let last : Heading → Tree → Test Function = λ g b. Ok (record { name = f.name; span = f.span; params = g.params; result = g.result; body = b }) in
        let with_body : Heading → Tree → Test Function = λ g e. fitted e g.result.ty >>= λ b. last g b in
        let with_heading : Heading → Test Function = λ g. check m f.body (with_params g.params (outermost m)) >>= λ e. with_body g e in
        gives_then IsKeptHeading IsKeptFunction (heading_of m f.span i) with_heading (found_kept IsKeptHeading f.span i m.headings tables.headings) (λ g l.
        gives_then (IsKept rules) IsKeptFunction (check m f.body (with_params g.params (outermost m))) (with_body g) (tree_keeps rules m f.body h.body (with_params g.params (outermost m))) (λ e r.
        gives_then (IsKept rules) IsKeptFunction (fitted e g.result.ty) (last g) (fitted_kept rules e g.result.ty r) (λ b q. (l.0, (l.1, q)))))

    constraint_kept : (e : source.Tree) → AllowsTree e → Gives (constraint m e) (IsKept rules)
    unfolding constraint
    constraint_kept e h = gives_then (IsKept rules) (IsKept rules) (check m e (outermost m)) condition (tree_keeps rules m e h (outermost m)) (λ c l. condition_kept rules c l)

    objective_kept : (e : source.Tree) → AllowsTree e → Gives (objective m e) (IsKept rules)
    objective_kept e h = gives_then (IsKept rules) (IsKept rules) (check m e (outermost m)) (λ o. fitted o (as_var o base.Int)) (tree_keeps rules m e h (outermost m)) (λ o l. fitted_kept rules o (as_var o base.Int) l)

    goal_kept : (g : GoalTree) → AllowsGoal g → Gives (goal m g) IsKeptGoal
    unfolding goal
    goal_kept item.satisfy h = tt
    goal_kept (item.minimize e) h = gives_then (IsKept rules) IsKeptGoal (objective m e) (λ o. Ok (minimize o)) (objective_kept e h) (λ o l. l)
    goal_kept (item.maximize e) h = gives_then (IsKept rules) IsKeptGoal (objective m e) (λ o. Ok (maximize o)) (objective_kept e h) (λ o l. l)

    array_kept : (b : Bool) (e : Tree) → IsKept rules e → Gives (if b then refuse kind.TypeMismatch (place_of e) else fitted e (texts_like e)) (IsKept rules)
    array_kept true e h = tt
    array_kept false e h = fitted_kept rules e (texts_like e) h

    output_kept : (e : source.Tree) → AllowsTree e → Gives (output m e) (IsKept rules)
    unfolding output
    output_kept e h = gives_then (IsKept rules) (IsKept rules) (check m e (in_output m)) texts_fitted (tree_keeps rules m e h (in_output m)) (λ o l. array_kept (is_scalar (type_of o)) o l)

    decls_kept_from : (i : ℕ) (ds : List Declaration) → All (AllowsDeclaration) ds → AllBy (λ d. Gives (decl m d.0 d.1) (IsKeptDecl rules)) (enumerate_from i ds)
    decls_kept_from i [] h = tt
    decls_kept_from i (d ∷ ds) h = (decl_kept i d (h 0 d (omega arith)), decls_kept_from (i + 1) ds (λ j e low. h (suc j) e (omega (arith, low))))

    functions_kept : (i : ℕ) (fs : List FunctionTree) → All (AllowsFunction) fs → AllBy (λ f. Gives (function m f.0 f.1) IsKeptFunction) (enumerate_from i fs)
    functions_kept i [] h = tt
    functions_kept i (f ∷ fs) h = (function_kept i f (h 0 f (omega arith)), functions_kept (i + 1) fs (λ j e low. h (suc j) e (omega (arith, low))))

    trees_kept : (go : source.Tree → Test Tree) (es : List source.Tree) → ((e : source.Tree) → AllowsTree e → Gives (go e) (IsKept rules)) → All AllowsTree es → AllBy (λ e. Gives (go e) (IsKept rules)) es
    trees_kept go [] keep h = tt
    trees_kept go (e ∷ es) keep h = (keep e (h 0 e (omega arith)), trees_kept go es keep (λ j d low. h (suc j) d (omega (arith, low))))

  -- ---- the whole

  pub sections_kept : (s : ScopedTree) (m : Model) → AllowsModel s → AreKeptTables m → Gives (sections s m) AreKeptSections
  unfolding sections
  sections_kept s m allowed tables =
      let last : List Decl → List Function → List Tree → Goal → List Tree → Test Sections = λ ds fs cs g os. Ok (record { decls = ds; functions = fs; constraints = cs; goal = g; outputs = os }) in
      let outputs : List Decl → List Function → List Tree → Goal → Test Sections = λ ds fs cs g. each (output m) s.outputs >>= λ os. last ds fs cs g os in
      let objectives : List Decl → List Function → List Tree → Test Sections = λ ds fs cs. goal m s.goal >>= λ g. outputs ds fs cs g in
      let constraints : List Decl → List Function → Test Sections = λ ds fs. each (constraint m) s.constraints >>= λ cs. objectives ds fs cs in
      let functions : List Decl → Test Sections = λ ds. each (λ f. function m f.0 f.1) (numbered s.functions) >>= λ fs. constraints ds fs in
      gives_then (AllBy (IsKeptDecl rules)) AreKeptSections (each (λ d. decl m d.0 d.1) (numbered s.decls)) functions (each_gives (IsKeptDecl rules) (λ d. decl m d.0 d.1) (numbered s.decls) (decls_kept_from m tables 0 s.decls allowed.decls)) (λ ds a.
      gives_then (AllBy IsKeptFunction) AreKeptSections (each (λ f. function m f.0 f.1) (numbered s.functions)) (constraints ds) (each_gives IsKeptFunction (λ f. function m f.0 f.1) (numbered s.functions) (functions_kept m tables 0 s.functions allowed.functions)) (λ fs b.
      gives_then (AreKept rules) AreKeptSections (each (constraint m) s.constraints) (objectives ds fs) (each_gives (IsKept rules) (constraint m) s.constraints (trees_kept m tables (constraint m) s.constraints (constraint_kept m tables) allowed.constraints)) (λ cs c.
      gives_then IsKeptGoal AreKeptSections (goal m s.goal) (outputs ds fs cs) (goal_kept m tables s.goal allowed.goal) (λ g d.
      gives_then (AreKept rules) AreKeptSections (each (output m) s.outputs) (last ds fs cs g) (each_gives (IsKept rules) (output m) s.outputs (trees_kept m tables (output m) s.outputs (output_kept m tables) allowed.outputs)) (λ os e.
      record { decls = a; functions = b; constraints = c; goal = d; outputs = e })))))

  with_values_kept : (vs : List (ℕ × Tree)) (all : Sections) → AllBy (IsKeptGiven rules) vs → AreKeptSections all → AreKeptSections (with_values vs all)
  unfolding with_values
  with_values_kept vs all h k = record {
    decls = decls_kept rules vs all.decls h k.decls;
    functions = k.functions;
    constraints = k.constraints;
    goal = k.goal;
    outputs = k.outputs;
  }

  pub checked_kept : (texts : List (List ℕ)) (s : ScopedTree) (order : List Subject) → AllowsModel s → AllBy (AllowsSubject s) order → Gives (checked_with_data texts s order) AreKeptSections
  unfolding checked_with_data checked_given
  checked_kept texts s order allowed subjects =
      let m = with_types s (untyped texts s) order in
      let all : List (ℕ × Tree) → Test Sections = λ vs. sections s m >>= λ a. Ok (with_values vs a) in
      let tested : List (ℕ × Tree) → Test Sections = λ vs. none_met (items_met s m) >> all vs in
      let valued : Test Sections = given_values m s.given >>= tested in
      let unrepeated : Test Sections = no_fault (duplicate_after m.texts [] (signed s m)) >> valued in
      gives_after AreKeptSections (none_met (types_met s m)) (λ u. unrepeated) (λ u.
      gives_after AreKeptSections (no_fault (duplicate_after m.texts [] (signed s m))) (λ v. valued) (λ v.
      gives_then (AllBy (IsKeptGiven rules)) AreKeptSections (given_values m s.given) tested (values_kept rules m s.given) (λ vs h.
      gives_after AreKeptSections (none_met (items_met s m)) (λ w. all vs) (λ w.
      gives_then AreKeptSections AreKeptSections (sections s m) (λ a. Ok (with_values vs a)) (sections_kept s m allowed (all_typed s (untyped texts s) order subjects (none_typed texts s))) (λ a t. with_values_kept vs a h t)))))
