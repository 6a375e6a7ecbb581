-- From values and bodies to declarations and functions.
use Rattle.std.proofs.Common.{◌≡◌, ◌∙◌, ℕ, zero, suc, ◌+◌, ◌<◌, List, [], ◌∷◌, ◌++◌, Option, Some, None, Ok, Err, length, get_or, refl, ap, sym, subst, append_assoc, append-nil, arith}
use Rattle.std.specs.List.{enumerate_from}
use Rattle.mz_base.specs.declared.fault.Span.{Span}
use Rattle.mz_core.specs.Tree.{Tree, Decl, DeclaredType}
use Rattle.mz_core.specs.Program.{Function, Goal}
use Rattle.mz_tree.specs.Tree as source
use Rattle.mz_tree.specs.Tree.{Declaration}
use Rattle.mz_tree.specs.Items.{FunctionTree}
use Rattle.mz_scope_order.specs.Scoped.{ScopedTree}
use Rattle.mz_check_meaning.specs.Tests.{Test, ◌>>=◌, loop, one_more, each}
use Rattle.mz_check_meaning.specs.Models.{Model, Heading, entry_of, typed_so_far, outermost}
use Rattle.mz_check_meaning.specs.Coerced.{fitted}
use Rattle.mz_check_meaning.specs.Typing.{check}
use Rattle.mz_check_meaning.specs.Items.{value_of, with_params, decl, function, constraint, goal, output}
use Rattle.mz_check_meaning.specs.Checks.{numbered, Sections, sections}
use Rattle.mz_check_meaning.proofs.Giving.{Gives, gives_after}
use Rattle.mz_check_data.specs.WithData.{AreNumbered}
use Rattle.mz_check.specs.StepsParts.{value_in, body_in, value_of_each, body_of_each, Parts, AreParts}
use Rattle.mz_check.specs.StepsTaking.{decl_with, function_with, decl_by, function_by, from_number}

-- what each of a list gives
abbrev pub EachGives : {A B : Type 0} → (A → Test B) → List A → List B → Type 0
EachGives go [] [] = Unit {0}
EachGives go [] (y ∷ ys) = ⊥
EachGives go (x ∷ xs) [] = ⊥
EachGives go (x ∷ xs) (y ∷ ys) = (go x ≡ Ok y) × EachGives go xs ys

ok_is : {A : Type 0} (x y : A) (r : Test A) → r ≡ Ok x → r ≡ Ok y → y ≡ x
ok_is x y r e f = cc

given_case : {A B : Type 0} (go : A → Test B) (done : List B) (x : A) (xs : List A) (zs : List B) (r : Test B) → go x ≡ r → ((y : B) → loop (one_more go) (done ++ y ∷ []) xs ≡ Ok zs → (ys : List B) × (zs ≡ (done ++ y ∷ []) ++ ys) × EachGives go xs ys)
    → ((r >>= λ y. Ok (done ++ y ∷ [])) >>= λ next. loop (one_more go) next xs) ≡ Ok zs → (ys : List B) × (zs ≡ done ++ ys) × EachGives go (x ∷ xs) ys
given_case go done x xs zs (Ok y) is rest h = let more = rest y h in (y ∷ more.0, more.1 ∙ append_assoc done (y ∷ []) more.0, (is, more.2))
given_case go done x xs zs (Err f) is rest h = absurd (cc)

given : {A B : Type 0} (go : A → Test B) (done : List B) (xs : List A) (zs : List B) → loop (one_more go) done xs ≡ Ok zs → (ys : List B) × (zs ≡ done ++ ys) × EachGives go xs ys
given go done [] zs e = ([], ok_is done zs (loop (one_more go) done []) refl e ∙ sym (append-nil done), tt)
given go done (x ∷ xs) zs e = given_case go done x xs zs (go x) refl (λ y h. given go (done ++ y ∷ []) xs zs h) e

pub each_given : {A B : Type 0} (go : A → Test B) (xs : List A) (ys : List B) → each go xs ≡ Ok ys → EachGives go xs ys
each_given go xs ys e = let all = given go [] xs ys e in subst (λ zs. EachGives go xs zs) (sym all.1) all.2

gives : {A B : Type 0} (go : A → Test B) (done : List B) (xs : List A) (ys : List B) → EachGives go xs ys → loop (one_more go) done xs ≡ Ok (done ++ ys)
gives go done [] [] h = ap (λ zs. Ok zs) (sym (append-nil done))
gives go done [] (y ∷ ys) h = absurd h
gives go done (x ∷ xs) [] h = absurd h
gives {A} {B} go done (x ∷ xs) (y ∷ ys) h =
    ap (λ (r : Test B). (r >>= λ z. Ok (done ++ z ∷ [])) >>= λ next. loop (one_more go) next xs) h.0
    ∙ gives go (done ++ y ∷ []) xs ys h.1
    ∙ ap (λ zs. Ok zs) (append_assoc done (y ∷ []) ys)

pub gives_each : {A B : Type 0} (go : A → Test B) (xs : List A) (ys : List B) → EachGives go xs ys → each go xs ≡ Ok ys
gives_each go xs ys h = gives go [] xs ys h

-- what is made of a type in a table was typed

typed_case : {A B : Type 0} (at : Span) (o : Option (Test A)) (go : A → Test B) (v : B) → (typed_so_far at o >>= go) ≡ Ok v → (u : A) × (o ≡ Some (Ok u)) × (go u ≡ Ok v)
typed_case at None go v e = absurd (cc)
typed_case at (Some (Ok u)) go v e = (u, refl, e)
typed_case at (Some (Err f)) go v e = absurd (cc)

module _ (m : Model) where
  abbrev decl_of_each : ℕ × Declaration → Test Decl
  decl_of_each d = decl m d.0 d.1

  abbrev function_of_each : ℕ × FunctionTree → Test Function
  function_of_each f = function m f.0 f.1

  -- a declaration by its type and its value
  pub record IsDecl (k : ℕ) (d : Declaration) (v : Option Tree) : Type 0 where
    pub ty : DeclaredType
    pub entry : entry_of k m.types ≡ Some (Ok ty)
    pub is : decl m k d ≡ Ok (decl_with k d ty v)

  is_decl : (k : ℕ) (d : Declaration) (v : Option Tree) → value_in m k d ≡ Ok v → IsDecl k d v
  unfolding decl
  is_decl k (source.declaration t n at e) v h =
      let p = typed_case at (entry_of k m.types) (λ u. value_of m u.ty e) v h in
      record {
        ty = p.0;
        entry = p.1;
        is = ap (λ (o : Option (Test DeclaredType)). typed_so_far at o >>= λ u. value_of m u.ty e >>= λ w. Ok (record { slot = k; name = n; span = at; ty = u; value = w })) p.1
            ∙ ap (λ (r : Test (Option Tree)). r >>= λ w. Ok (record { slot = k; name = n; span = at; ty = p.0; value = w })) p.2;
      }

  values_give : (k : ℕ) (ds : List Declaration) (vs : List (Option Tree)) → EachGives (value_of_each m) (enumerate_from k ds) vs → EachGives decl_of_each (enumerate_from k ds) (from_number decl_by m.types k ds vs)
  unfolding from_number
  values_give k [] [] h = tt
  values_give k [] (v ∷ vs) h = absurd h
  values_give k (d ∷ ds) [] h = absurd h
  values_give k (d ∷ ds) (v ∷ vs) h =
      let one = is_decl k d v h.0 in
      subst (λ (o : Option (Test DeclaredType)). EachGives decl_of_each ((k, d) ∷ enumerate_from (k + 1) ds) (decl_by o k d v ++ from_number decl_by m.types (k + 1) ds vs)) (sym one.entry)
      (one.is, values_give (k + 1) ds vs h.1)

  -- a function by its heading and its body
  pub record IsFunction (k : ℕ) (f : FunctionTree) (b : Tree) : Type 0 where
    pub heading : Heading
    pub entry : entry_of k m.headings ≡ Some (Ok heading)
    pub is : function m k f ≡ Ok (function_with f heading b)

  two_steps : {A B C : Type 0} (e : Test A) (go : A → Test B) (f : B → C) (b : B) → (e >>= go) ≡ Ok b → (e >>= λ x. go x >>= λ y. Ok (f y)) ≡ Ok (f b)
  two_steps (Ok x) go f b h = ap (λ r. r >>= λ y. Ok (f y)) h
  two_steps (Err r) go f b h = absurd (cc)

  is_function : (k : ℕ) (f : FunctionTree) (b : Tree) → body_in m k f ≡ Ok b → IsFunction k f b
  unfolding function
  is_function k f b h =
      let p = typed_case f.span (entry_of k m.headings) (λ g. check m f.body (with_params g.params (outermost m)) >>= λ e. fitted e g.result.ty) b h in
      record {
        heading = p.0;
        entry = p.1;
        is = ap (λ (o : Option (Test Heading)). typed_so_far f.span o >>= λ g. check m f.body (with_params g.params (outermost m)) >>= λ e. fitted e g.result.ty >>= λ c. Ok (record { name = f.name; span = f.span; params = g.params; result = g.result; body = c })) p.1
            ∙ two_steps (check m f.body (with_params (p.0).params (outermost m))) (λ e. fitted e (p.0).result.ty) (λ c. record { name = f.name; span = f.span; params = (p.0).params; result = (p.0).result; body = c }) b p.2;
      }

  bodies_give : (k : ℕ) (fs : List FunctionTree) (bs : List Tree) → EachGives (body_of_each m) (enumerate_from k fs) bs → EachGives function_of_each (enumerate_from k fs) (from_number function_by m.headings k fs bs)
  unfolding from_number
  bodies_give k [] [] h = tt
  bodies_give k [] (b ∷ bs) h = absurd h
  bodies_give k (f ∷ fs) [] h = absurd h
  bodies_give k (f ∷ fs) (b ∷ bs) h =
      let one = is_function k f b h.0 in
      subst (λ (o : Option (Test Heading)). EachGives function_of_each ((k, f) ∷ enumerate_from (k + 1) fs) (function_by o k f b ++ from_number function_by m.headings (k + 1) fs bs)) (sym one.entry)
      (one.is, bodies_give (k + 1) fs bs h.1)

five_steps : {A B C D E R : Type 0} (a : Test A) (b : Test B) (c : Test C) (d : Test D) (e : Test E) (f : A → B → C → D → E → R) (x : A) (y : B) (z : C) (u : D) (v : E) → a ≡ Ok x → b ≡ Ok y → c ≡ Ok z → d ≡ Ok u → e ≡ Ok v → (a >>= λ k. b >>= λ l. c >>= λ m. d >>= λ n. e >>= λ o. Ok (f k l m n o)) ≡ Ok (f x y z u v)
five_steps a b c d e f x y z u v p q r s t =
    ap (λ h. h >>= λ k. b >>= λ l. c >>= λ m. d >>= λ n. e >>= λ o. Ok (f k l m n o)) p
    ∙ ap (λ h. h >>= λ l. c >>= λ m. d >>= λ n. e >>= λ o. Ok (f x l m n o)) q
    ∙ ap (λ h. h >>= λ m. d >>= λ n. e >>= λ o. Ok (f x y m n o)) r
    ∙ ap (λ h. h >>= λ n. e >>= λ o. Ok (f x y z n o)) s
    ∙ ap (λ h. h >>= λ o. Ok (f x y z u o)) t

pub sections_are : (s : ScopedTree) (m : Model) (p : Parts) → AreParts s m p → sections s m ≡ Ok (record { decls = from_number decl_by m.types 0 s.decls p.values; functions = from_number function_by m.headings 0 s.functions p.bodies; constraints = p.constraints; goal = p.goal; outputs = p.outputs })
unfolding sections
sections_are s m p are =
    five_steps (each (decl_of_each m) (numbered s.decls)) (each (function_of_each m) (numbered s.functions)) (each (constraint m) s.constraints) (goal m s.goal) (each (output m) s.outputs)
    (λ ds fs cs g os. record { decls = ds; functions = fs; constraints = cs; goal = g; outputs = os })
    (from_number decl_by m.types 0 s.decls p.values) (from_number function_by m.headings 0 s.functions p.bodies) p.constraints p.goal p.outputs
    (gives_each (decl_of_each m) (numbered s.decls) (from_number decl_by m.types 0 s.decls p.values) (values_give m 0 s.decls p.values (each_given (value_of_each m) (numbered s.decls) p.values are.values)))
    (gives_each (function_of_each m) (numbered s.functions) (from_number function_by m.headings 0 s.functions p.bodies) (bodies_give m 0 s.functions p.bodies (each_given (body_of_each m) (numbered s.functions) p.bodies are.bodies)))
    are.constraints are.goal are.outputs

-- the slot of a declaration that is typed is its number

later_slot : {B : Type 0} (r : Test B) (make : B → Decl) (k : ℕ) (x : Decl) → ((b : B) → (make b).slot ≡ k) → (r >>= λ b. Ok (make b)) ≡ Ok x → x.slot ≡ k
later_slot (Ok b) make k x same e = ap (λ (d : Decl). d.slot) (ok_is (make b) x (Ok (make b)) refl e) ∙ same b
later_slot (Err f) make k x same e = absurd (cc)

slot_in : {A B : Type 0} (u : Test A) (v : A → Test B) (make : A → B → Decl) (k : ℕ) (x : Decl) → ((a : A) (b : B) → (make a b).slot ≡ k) → (u >>= λ a. v a >>= λ b. Ok (make a b)) ≡ Ok x → x.slot ≡ k
slot_in (Ok a) v make k x same e = later_slot (v a) (make a) k x (same a) e
slot_in (Err f) v make k x same e = absurd (cc)

slot_is : (m : Model) (k : ℕ) (d : Declaration) (x : Decl) → decl m k d ≡ Ok x → x.slot ≡ k
unfolding decl
slot_is m k (source.declaration t n at e) x h = slot_in (typed_so_far at (entry_of k m.types)) (λ u. value_of m u.ty e) (λ u v. record { slot = k; name = n; span = at; ty = u; value = v }) k x (λ u v. refl) h

slots_from : (m : Model) (i : ℕ) (ds : List Declaration) (xs : List Decl) → EachGives (decl_of_each m) (enumerate_from i ds) xs → (k : ℕ) (d : Decl) → k < length xs → (get_or xs k d).slot ≡ i + k
slots_from m i [] [] h k d low = absurd (omega (arith, low))
slots_from m i [] (x ∷ xs) h k d low = absurd h
slots_from m i (d ∷ ds) [] h k e low = absurd h
slots_from m i (d ∷ ds) (x ∷ xs) h zero e low = slot_is m i d x h.0 ∙ (let z : i ≡ i + 0 = omega arith in z)
slots_from m i (d ∷ ds) (x ∷ xs) h (suc k) e low = slots_from m (i + 1) ds xs h.1 k e (omega (arith, low)) ∙ (let z : i + 1 + k ≡ i + suc k = omega arith in z)

sections_case : (s : ScopedTree) (m : Model) (all : Sections) (ds : Test (List Decl)) (go : List Decl → Test Sections) → each (decl_of_each m) (numbered s.decls) ≡ ds → ((xs : List Decl) → Gives (go xs) (λ a. a.decls ≡ xs)) → (ds >>= go) ≡ Ok all → each (decl_of_each m) (numbered s.decls) ≡ Ok all.decls
sections_case s m all (Ok xs) go is keeps e = is ∙ ap (λ (ys : List Decl). Ok ys) (sym (given_by (go xs) (keeps xs) e))
  where
    given_by : (r : Test Sections) → Gives r (λ a. a.decls ≡ xs) → r ≡ Ok all → all.decls ≡ xs
    given_by (Ok a) h i = ap (λ (b : Sections). b.decls) (ok_is a all (Ok a) refl i) ∙ h
    given_by (Err f) h i = absurd (cc)
sections_case s m all (Err f) go is keeps e = absurd (cc)

-- the slots of typed declarations are their numbers
pub sections_numbered : (s : ScopedTree) (m : Model) (all : Sections) → sections s m ≡ Ok all → AreNumbered all.decls
unfolding sections
sections_numbered s m all e =
    let last : List Decl → List Function → List Tree → Goal → List Tree → Test Sections = λ ds fs cs g os. Ok (record { decls = ds; functions = fs; constraints = cs; goal = g; outputs = os }) in
    let outputs : List Decl → List Function → List Tree → Goal → Test Sections = λ ds fs cs g. each (output m) s.outputs >>= λ os. last ds fs cs g os in
    let objectives : List Decl → List Function → List Tree → Test Sections = λ ds fs cs. goal m s.goal >>= λ g. outputs ds fs cs g in
    let constraints : List Decl → List Function → Test Sections = λ ds fs. each (constraint m) s.constraints >>= λ cs. objectives ds fs cs in
    let functions : List Decl → Test Sections = λ ds. each (function_of_each m) (numbered s.functions) >>= λ fs. constraints ds fs in
    let each_is = sections_case s m all (each (decl_of_each m) (numbered s.decls)) functions refl (λ xs.
    gives_after (λ a. a.decls ≡ xs) (each (function_of_each m) (numbered s.functions)) (constraints xs) (λ fs.
    gives_after (λ a. a.decls ≡ xs) (each (constraint m) s.constraints) (objectives xs fs) (λ cs.
    gives_after (λ a. a.decls ≡ xs) (goal m s.goal) (outputs xs fs cs) (λ g.
    gives_after (λ a. a.decls ≡ xs) (each (output m) s.outputs) (last xs fs cs g) (λ os. refl))))) e in
    let gave = each_given (decl_of_each m) (numbered s.decls) all.decls each_is in
    λ k d low. slots_from m 0 s.decls all.decls gave k d low ∙ (let z : 0 + k ≡ k = omega arith in z)

-- the sections, with tables and lists that are those of the model
pub assembled_is : (s : ScopedTree) (m : Model) (p : Parts) (ts : List (ℕ × Test DeclaredType)) (hs : List (ℕ × Test Heading)) (declarations : List Declaration) (trees : List FunctionTree) (decls : List Decl) (functions : List Function)
    → AreParts s m p → ts ≡ m.types → hs ≡ m.headings → declarations ≡ s.decls → trees ≡ s.functions → decls ≡ from_number decl_by ts 0 declarations p.values → functions ≡ from_number function_by hs 0 trees p.bodies
    → sections s m ≡ Ok (record { decls = decls; functions = functions; constraints = p.constraints; goal = p.goal; outputs = p.outputs })
assembled_is s m p ts hs declarations trees decls functions are t h d f x y =
    let made : List Decl → List Function → Test Sections = λ ds fs. Ok (record { decls = ds; functions = fs; constraints = p.constraints; goal = p.goal; outputs = p.outputs }) in
    let same_decls : from_number decl_by m.types 0 s.decls p.values ≡ decls =
    sym (x ∙ ap (λ (us : List (ℕ × Test DeclaredType)). from_number decl_by us 0 declarations p.values) t ∙ ap (λ (ds : List Declaration). from_number decl_by m.types 0 ds p.values) d) in
    let same_functions : from_number function_by m.headings 0 s.functions p.bodies ≡ functions =
    sym (y ∙ ap (λ (us : List (ℕ × Test Heading)). from_number function_by us 0 trees p.bodies) h ∙ ap (λ (fs : List FunctionTree). from_number function_by m.headings 0 fs p.bodies) f) in
    sections_are s m p are
    ∙ ap (λ (ds : List Decl). made ds (from_number function_by m.headings 0 s.functions p.bodies)) same_decls
    ∙ ap (λ (fs : List Function). made decls fs) same_functions
