-- The places of what a scoped model is typed to with its data are of the kind of those in the model and the data.
use Rattle.std.proofs.Common.{ℕ, zero, suc, ◌+◌, Bool, true, false, cond, List, [], ◌∷◌, ◌++◌, Option, Some, None, Ok, arith}
use Rattle.std.specs.Prelude.{All, nat_eq, if◌then◌else◌, slice_index_or}
use Rattle.std.specs.List.{enumerate_from}
use Rattle.std.proofs.lemmas.List.Elements.{All-nil}
use Rattle.mz_base.specs.declared.fault.Span.{Span}
use Rattle.mz_base.specs.declared.kind.Kind.TheVariants as kind
use Rattle.mz_base.specs.Faults.{start_of}
use Rattle.mz_core.specs.declared.types.Base.TheVariants as base
use Rattle.mz_core.specs.Types.{PlainType}
use Rattle.mz_core.specs.Tree.{Tree, Decl, DeclaredType, type_of, place_of}
use Rattle.mz_core.specs.Program.{Function, Goal, satisfy, minimize, maximize}
use Rattle.mz_tree.specs.Tree as source
use Rattle.mz_tree.specs.Tree.{Name, Declaration, Maybe}
use Rattle.mz_tree.specs.Items as item
use Rattle.mz_tree.specs.Items.{FunctionTree, GoalTree}
use Rattle.mz_tree.specs.Kinds.{OfTree, OfMaybe}
use Rattle.mz_tree.specs.Data.{Given}
use Rattle.mz_scope_order.specs.Parts.{decl_at, function_at}
use Rattle.mz_scope_order.specs.Scoped.{ScopedTree}
use Rattle.mz_scope_order.specs.Subjects.{Subject, of_decl, of_function}
use Rattle.mz_check_meaning.specs.Tests.{Test, ◌>>=◌, ◌>>◌, refuse, loop, each}
use Rattle.mz_check_meaning.specs.Models.{Model, Heading, entry_of, typed_so_far, type_of_decl, heading_of, outermost, in_output, bind}
use Rattle.mz_check_meaning.specs.Coerced.{fitted, condition, as_var, is_scalar}
use Rattle.mz_check_meaning.specs.Lets.{new_name, decl_of}
use Rattle.mz_check_meaning.specs.Typing.{check, check_written}
use Rattle.mz_check_meaning.specs.Headings.{Parameters, param_next, heading, written_in, with_type, with_types}
use Rattle.mz_check_meaning.specs.Items.{value_of, decl, with_params, function, constraint, objective, goal, texts_like, texts_fitted, output}
use Rattle.mz_check_meaning.specs.Duplicates.{duplicate_after}
use Rattle.mz_check_meaning.specs.Checks.{numbered, none_met, types_met, items_met, no_fault, signed, untyped, Sections, sections}
use Rattle.mz_check_data.specs.WithData.{given_values, with_values, checked_given, checked_with_data}
use Rattle.mz_analysis.proofs.Data.{IsPlacedGiven, values_placed, decls_placed}
use Rattle.mz_analysis.specs.Known.{OfFunction, OfGiven, OfScoped}
use Rattle.mz_check_meaning.proofs.Giving.{AllBy, all_both, Gives, gives_then, gives_after, loop_gives, each_gives}
use Rattle.mz_analysis.proofs.PlaceNodes.{IsPlaced, ArePlaced, IsPlacedMaybe, IsPlacedType, IsPlacedDecl, fitted_placed, condition_placed}
use Rattle.mz_analysis.proofs.Typed.{tree_gives, written_gives}
use Rattle.mz_tree.specs.Kinds.{OfDeclaration, OfWritten, OfGoal}

at_place : {A : Type 0} (K : A → Type 0) (xs : List A) (k : ℕ) (d : A) → All K xs → K d → K (slice_index_or xs k d)
at_place K [] zero d h p = p
at_place K [] (suc k) d h p = p
at_place K (x ∷ xs) zero d h p = h 0 x (omega arith)
at_place K (x ∷ xs) (suc k) d h p = at_place K xs k d (λ i e low. h (suc i) e (omega (arith, low))) p

module _ (N : Name → Type 0) (P : Span → Type 0) where
  abbrev TreeOf : source.Tree → Type 0
  TreeOf e = OfTree N P e

  abbrev DeclarationOf : Declaration → Type 0
  DeclarationOf d = OfDeclaration N P d

  abbrev FunctionOf : FunctionTree → Type 0
  FunctionOf f = OfFunction N P f

  -- ---- the typed parts of a model

  abbrev pub IsPlacedHeading : Heading → Type 0
  IsPlacedHeading h = AllBy (IsPlacedDecl P) h.params × IsPlacedType P h.result

  abbrev pub IsPlacedFunction : Function → Type 0
  IsPlacedFunction f = P f.span × AllBy (IsPlacedDecl P) f.params × IsPlacedType P f.result × IsPlaced P f.body

  abbrev pub IsPlacedGoal : Goal → Type 0
  IsPlacedGoal satisfy = Unit {0}
  IsPlacedGoal (minimize e) = IsPlaced P e
  IsPlacedGoal (maximize e) = IsPlaced P e

  pub record ArePlacedSections (all : Sections) : Type 0 where
    pub decls : AllBy (IsPlacedDecl P) all.decls
    pub functions : AllBy IsPlacedFunction all.functions
    pub constraints : ArePlaced P all.constraints
    pub goal : IsPlacedGoal all.goal
    pub outputs : ArePlaced P all.outputs

  -- ---- tables of types

  pub record ArePlacedTables (m : Model) : Type 0 where
    pub types : AllBy (λ e. Gives e.1 (IsPlacedType P)) m.types
    pub headings : AllBy (λ e. Gives e.1 IsPlacedHeading) m.headings

  param_placed : (m : Model) (start : ℕ) (s : Parameters) (d : Declaration) → DeclarationOf d → AllBy (IsPlacedDecl P) s.params → Gives (param_next m start s d) (λ p. AllBy (IsPlacedDecl P) p.params)
  unfolding OfTree
  param_placed m start s (source.declaration t n at e) h all =
      let last : DeclaredType → Test Parameters = λ u. Ok (record { params = s.params ++ decl_of s.env n at u None ∷ []; env = bind n u.ty s.env }) in
      gives_then (IsPlacedType P) (λ p. AllBy (IsPlacedDecl P) p.params) (check_written m t s.env) (λ u. new_name start n at s.env >> last u) (written_gives P N m t h.0 s.env) (λ u l.
      gives_after (λ p. AllBy (IsPlacedDecl P) p.params) (new_name start n at s.env) (λ v. last u) (λ v.
      all_both (IsPlacedDecl P) s.params (decl_of s.env n at u None ∷ []) all (record { span = h.2; ty = l; value = tt }, tt)))

  params_placed : (m : Model) (start : ℕ) (ds : List Declaration) → All (DeclarationOf) ds → AllBy (λ d. (s : Parameters) → AllBy (IsPlacedDecl P) s.params → Gives (param_next m start s d) (λ p. AllBy (IsPlacedDecl P) p.params)) ds
  params_placed m start [] h = tt
  params_placed m start (d ∷ ds) h = ((λ s all. param_placed m start s d (h 0 d (omega arith)) all), params_placed m start ds (λ i e low. h (suc i) e (omega (arith, low))))

  type_in : (d : Declaration) → DeclarationOf d → OfWritten N P (written_in d)
  unfolding OfTree
  type_in (source.declaration t n at e) h = h.0

  heading_placed : (m : Model) (f : FunctionTree) → FunctionOf f → Gives (heading m f) IsPlacedHeading
  unfolding heading
  heading_placed m f h =
      let last : Parameters → DeclaredType → Test Heading = λ ps r. Ok (record { params = ps.params; result = r }) in
      gives_then (λ p. AllBy (IsPlacedDecl P) p.params) IsPlacedHeading (loop (param_next m m.count) (record { params = []; env = outermost m }) f.params) (λ ps. check_written m f.result ps.env >>= λ r. last ps r)
      (loop_gives (λ p. AllBy (IsPlacedDecl P) p.params) (param_next m m.count) (record { params = []; env = outermost m }) f.params tt (params_placed m m.count f.params h.3)) (λ ps l.
      gives_then (IsPlacedType P) IsPlacedHeading (check_written m f.result ps.env) (last ps) (written_gives P N m f.result h.2 ps.env) (λ r t. (l, t)))

  module _ (s : ScopedTree) (of : OfScoped N P s) (start : P (start_of 0)) (first : N 0) where
    decl_of_number : (k : ℕ) → DeclarationOf (decl_at s.decls k)
    unfolding OfTree
    decl_of_number k = at_place DeclarationOf s.decls k _ of.decls (((start, tt, tt), first, start, tt))

    function_of_number : (k : ℕ) → FunctionOf (function_at s.functions k)
    unfolding OfTree
    function_of_number k = at_place FunctionOf s.functions k _ of.functions ((first, start, (start, tt, tt), All-nil DeclarationOf, (start, tt)))

    one_typed : (m : Model) (x : Subject) → ArePlacedTables m → ArePlacedTables (with_type s m x)
    one_typed m (of_decl d) t = record {
      types = all_both (λ e. Gives e.1 (IsPlacedType P)) m.types ((d, check_written m (written_in (decl_at s.decls d)) (outermost m)) ∷ []) t.types
          (written_gives P N m (written_in (decl_at s.decls d)) (type_in (decl_at s.decls d) (decl_of_number d)) (outermost m), tt);
      headings = t.headings;
    }
    one_typed m (of_function f) t = record {
      types = t.types;
      headings = all_both (λ e. Gives e.1 IsPlacedHeading) m.headings ((f, heading m (function_at s.functions f)) ∷ []) t.headings
          (heading_placed m (function_at s.functions f) (function_of_number f), tt);
    }

    all_typed : (m : Model) (xs : List Subject) → ArePlacedTables m → ArePlacedTables (with_types s m xs)
    unfolding with_types
    all_typed m [] t = t
    all_typed m (x ∷ xs) t = all_typed (with_type s m x) xs (one_typed m x t)

  none_typed : (texts : List (List ℕ)) (s : ScopedTree) → ArePlacedTables (untyped texts s)
  unfolding untyped
  none_typed texts s = record { types = tt; headings = tt }

  found_case : {A : Type 0} (Q : A → Type 0) (at : Span) (b : Bool) (t : Test A) (o : Option (Test A)) → Gives t Q → Gives (typed_so_far at o) Q → Gives (typed_so_far at (cond b (Some t) o)) Q
  found_case Q at true t o h l = h
  found_case Q at false t o h l = l

  found_placed : {A : Type 0} (Q : A → Type 0) (at : Span) (n : ℕ) (es : List (ℕ × Test A)) → AllBy (λ e. Gives e.1 Q) es → Gives (typed_so_far at (entry_of n es)) Q
  unfolding entry_of
  found_placed Q at n [] h = tt
  found_placed Q at n (e ∷ es) h = found_case Q at (nat_eq e.0 n) e.1 (entry_of n es) h.0 (found_placed Q at n es h.1)

  -- ---- values, bodies and items

  module _ (m : Model) (tables : ArePlacedTables m) where
    value_placed : (t : PlainType) (e : Maybe) → OfMaybe N P e → Gives (value_of m t e) (IsPlacedMaybe P)
    unfolding OfTree
    value_placed t source.nothing h = tt
    value_placed t (source.just e) h =
        gives_then (IsPlaced P) (IsPlacedMaybe P) (check m e (outermost m)) (λ v. fitted v t >>= λ w. Ok (Some w)) (tree_gives P N m e h (outermost m)) (λ v l.
        gives_then (IsPlaced P) (IsPlacedMaybe P) (fitted v t) (λ w. Ok (Some w)) (fitted_placed P v t l) (λ w r. r))

    decl_placed : (d : ℕ) (x : Declaration) → DeclarationOf x → Gives (decl m d x) (IsPlacedDecl P)
    unfolding decl OfTree
    decl_placed d (source.declaration t n at e) h =
        gives_then (IsPlacedType P) (IsPlacedDecl P) (type_of_decl m at d) (λ u. value_of m u.ty e >>= λ v. Ok (record { slot = d; name = n; span = at; ty = u; value = v })) (found_placed (IsPlacedType P) at d m.types tables.types) (λ u l.
        gives_then (IsPlacedMaybe P) (IsPlacedDecl P) (value_of m u.ty e) (λ v. Ok (record { slot = d; name = n; span = at; ty = u; value = v })) (value_placed u.ty e h.3) (λ v r. record { span = h.2; ty = l; value = r }))

    function_placed : (i : ℕ) (f : FunctionTree) → FunctionOf f → Gives (function m i f) IsPlacedFunction
    unfolding function
    function_placed i f h =
        let last : Heading → Tree → Test Function = λ g b. Ok (record { name = f.name; span = f.span; params = g.params; result = g.result; body = b }) in
        let with_body : Heading → Tree → Test Function = λ g e. fitted e g.result.ty >>= λ b. last g b in
        let with_heading : Heading → Test Function = λ g. check m f.body (with_params g.params (outermost m)) >>= λ e. with_body g e in
        gives_then IsPlacedHeading IsPlacedFunction (heading_of m f.span i) with_heading (found_placed IsPlacedHeading f.span i m.headings tables.headings) (λ g l.
        gives_then (IsPlaced P) IsPlacedFunction (check m f.body (with_params g.params (outermost m))) (with_body g) (tree_gives P N m f.body h.4 (with_params g.params (outermost m))) (λ e r.
        gives_then (IsPlaced P) IsPlacedFunction (fitted e g.result.ty) (last g) (fitted_placed P e g.result.ty r) (λ b q. (h.1, l.0, l.1, q))))

    constraint_placed : (e : source.Tree) → TreeOf e → Gives (constraint m e) (IsPlaced P)
    unfolding constraint
    constraint_placed e h = gives_then (IsPlaced P) (IsPlaced P) (check m e (outermost m)) condition (tree_gives P N m e h (outermost m)) (λ c l. condition_placed P c l)

    objective_placed : (e : source.Tree) → TreeOf e → Gives (objective m e) (IsPlaced P)
    objective_placed e h = gives_then (IsPlaced P) (IsPlaced P) (check m e (outermost m)) (λ o. fitted o (as_var o base.Int)) (tree_gives P N m e h (outermost m)) (λ o l. fitted_placed P o (as_var o base.Int) l)

    goal_placed : (g : GoalTree) → OfGoal N P g → Gives (goal m g) IsPlacedGoal
    unfolding goal
    goal_placed item.satisfy h = tt
    goal_placed (item.minimize e) h = gives_then (IsPlaced P) IsPlacedGoal (objective m e) (λ o. Ok (minimize o)) (objective_placed e h) (λ o l. l)
    goal_placed (item.maximize e) h = gives_then (IsPlaced P) IsPlacedGoal (objective m e) (λ o. Ok (maximize o)) (objective_placed e h) (λ o l. l)

    array_placed : (b : Bool) (e : Tree) → IsPlaced P e → Gives (if b then refuse kind.TypeMismatch (place_of e) else fitted e (texts_like e)) (IsPlaced P)
    array_placed true e h = tt
    array_placed false e h = fitted_placed P e (texts_like e) h

    output_placed : (e : source.Tree) → TreeOf e → Gives (output m e) (IsPlaced P)
    unfolding output
    output_placed e h = gives_then (IsPlaced P) (IsPlaced P) (check m e (in_output m)) texts_fitted (tree_gives P N m e h (in_output m)) (λ o l. array_placed (is_scalar (type_of o)) o l)

    decls_placed_from : (i : ℕ) (ds : List Declaration) → All (DeclarationOf) ds → AllBy (λ d. Gives (decl m d.0 d.1) (IsPlacedDecl P)) (enumerate_from i ds)
    decls_placed_from i [] h = tt
    decls_placed_from i (d ∷ ds) h = (decl_placed i d (h 0 d (omega arith)), decls_placed_from (i + 1) ds (λ j e low. h (suc j) e (omega (arith, low))))

    functions_placed : (i : ℕ) (fs : List FunctionTree) → All (FunctionOf) fs → AllBy (λ f. Gives (function m f.0 f.1) IsPlacedFunction) (enumerate_from i fs)
    functions_placed i [] h = tt
    functions_placed i (f ∷ fs) h = (function_placed i f (h 0 f (omega arith)), functions_placed (i + 1) fs (λ j e low. h (suc j) e (omega (arith, low))))

    trees_placed : (go : source.Tree → Test Tree) (es : List source.Tree) → ((e : source.Tree) → TreeOf e → Gives (go e) (IsPlaced P)) → All TreeOf es → AllBy (λ e. Gives (go e) (IsPlaced P)) es
    trees_placed go [] keep h = tt
    trees_placed go (e ∷ es) keep h = (keep e (h 0 e (omega arith)), trees_placed go es keep (λ j d low. h (suc j) d (omega (arith, low))))

  -- ---- the whole

  pub sections_placed : (s : ScopedTree) (m : Model) → OfScoped N P s → ArePlacedTables m → Gives (sections s m) ArePlacedSections
  unfolding sections
  sections_placed s m of tables =
      let last : List Decl → List Function → List Tree → Goal → List Tree → Test Sections = λ ds fs cs g os. Ok (record { decls = ds; functions = fs; constraints = cs; goal = g; outputs = os }) in
      let outputs : List Decl → List Function → List Tree → Goal → Test Sections = λ ds fs cs g. each (output m) s.outputs >>= λ os. last ds fs cs g os in
      let objectives : List Decl → List Function → List Tree → Test Sections = λ ds fs cs. goal m s.goal >>= λ g. outputs ds fs cs g in
      let constraints : List Decl → List Function → Test Sections = λ ds fs. each (constraint m) s.constraints >>= λ cs. objectives ds fs cs in
      let functions : List Decl → Test Sections = λ ds. each (λ f. function m f.0 f.1) (numbered s.functions) >>= λ fs. constraints ds fs in
      gives_then (AllBy (IsPlacedDecl P)) ArePlacedSections (each (λ d. decl m d.0 d.1) (numbered s.decls)) functions (each_gives (IsPlacedDecl P) (λ d. decl m d.0 d.1) (numbered s.decls) (decls_placed_from m tables 0 s.decls of.decls)) (λ ds a.
      gives_then (AllBy IsPlacedFunction) ArePlacedSections (each (λ f. function m f.0 f.1) (numbered s.functions)) (constraints ds) (each_gives IsPlacedFunction (λ f. function m f.0 f.1) (numbered s.functions) (functions_placed m tables 0 s.functions of.functions)) (λ fs b.
      gives_then (ArePlaced P) ArePlacedSections (each (constraint m) s.constraints) (objectives ds fs) (each_gives (IsPlaced P) (constraint m) s.constraints (trees_placed m tables (constraint m) s.constraints (constraint_placed m tables) of.constraints)) (λ cs c.
      gives_then IsPlacedGoal ArePlacedSections (goal m s.goal) (outputs ds fs cs) (goal_placed m tables s.goal of.goal) (λ g d.
      gives_then (ArePlaced P) ArePlacedSections (each (output m) s.outputs) (last ds fs cs g) (each_gives (IsPlaced P) (output m) s.outputs (trees_placed m tables (output m) s.outputs (output_placed m tables) of.outputs)) (λ os e.
      record { decls = a; functions = b; constraints = c; goal = d; outputs = e })))))

  data_placed : (gs : List Given) → All (OfGiven N P) gs → AllBy (λ g. P g.at) gs
  data_placed [] h = tt
  data_placed (g ∷ gs) h = ((h 0 g (omega arith)).value, data_placed gs (λ i e low. h (suc i) e (omega (arith, low))))

  with_values_placed : (vs : List (ℕ × Tree)) (all : Sections) → AllBy (IsPlacedGiven P) vs → ArePlacedSections all → ArePlacedSections (with_values vs all)
  unfolding with_values
  with_values_placed vs all h k = record {
    decls = decls_placed P vs all.decls h k.decls;
    functions = k.functions;
    constraints = k.constraints;
    goal = k.goal;
    outputs = k.outputs;
  }

  pub checked_placed : (texts : List (List ℕ)) (s : ScopedTree) (order : List Subject) → OfScoped N P s → P (start_of 0) → N 0 → Gives (checked_with_data texts s order) ArePlacedSections
  unfolding checked_with_data checked_given
  checked_placed texts s order of start first =
      let m = with_types s (untyped texts s) order in
      let all : List (ℕ × Tree) → Test Sections = λ vs. sections s m >>= λ a. Ok (with_values vs a) in
      let tested : List (ℕ × Tree) → Test Sections = λ vs. none_met (items_met s m) >> all vs in
      let valued : Test Sections = given_values m s.given >>= tested in
      let unrepeated : Test Sections = no_fault (duplicate_after m.texts [] (signed s m)) >> valued in
      gives_after ArePlacedSections (none_met (types_met s m)) (λ u. unrepeated) (λ u.
      gives_after ArePlacedSections (no_fault (duplicate_after m.texts [] (signed s m))) (λ v. valued) (λ v.
      gives_then (AllBy (IsPlacedGiven P)) ArePlacedSections (given_values m s.given) tested (values_placed P m s.given (data_placed s.given of.given)) (λ vs h.
      gives_after ArePlacedSections (none_met (items_met s m)) (λ w. all vs) (λ w.
      gives_then ArePlacedSections ArePlacedSections (sections s m) (λ a. Ok (with_values vs a)) (sections_placed s m of (all_typed s of start first (untyped texts s) order (none_typed texts s))) (λ a t. with_values_placed vs a h t)))))
