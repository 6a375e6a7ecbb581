-- The order in which types are typed makes no difference: what is typed in one order is typed alike in every other.
use Rattle.std.proofs.Common.{◌≡◌, ℕ, Bool, true, false, List, [], ◌∷◌, ◌++◌, refl, ap, sym, subst, ◌∙◌, inl, inr, append_assoc}
use Rattle.std.specs.Prelude.{◌⊎◌, Option, Some, None, Ok, nat_eq, if◌then◌else◌}
use Rattle.std.proofs.lemmas.Bool.{eq-eqb, ne_eqb}
use Rattle.std.proofs.lemmas.List.{append-nil}
use Rattle.mz_base.specs.declared.fault.Span.{Span}
use Rattle.mz_core.specs.Tree.{DeclaredType}
use Rattle.mz_tree.specs.Tree as source
use Rattle.mz_tree.specs.Tree.{Name, Declaration, Written}
use Rattle.mz_tree.specs.Items.{FunctionTree}
use Rattle.mz_graph.proofs.Membership.{same_or_not}
use Rattle.mz_scope_names.specs.Sets.{with_name}
use Rattle.mz_scope_names.specs.declared.name_use.NameUse.{NameUse}
use Rattle.mz_scope_names.specs.Uses.{in_written}
use Rattle.mz_scope_names.specs.Sketches.{decl_sketch, function_sketch, in_parameters, with_parameters}
use Rattle.mz_scope_order.specs.Parts.{decl_at, function_at}
use Rattle.mz_scope_order.specs.Scoped.{ScopedTree}
use Rattle.mz_scope_order.specs.Subjects.{Subject, of_decl, of_function, IsAmong, AreTyped, types_in, ComeAfterNeeds}
use Rattle.mz_check_meaning.specs.Tests.{Test, ◌>>=◌, loop}
use Rattle.mz_check_meaning.specs.Models.{Model, Heading, entry_of, outermost, bind}
use Rattle.mz_check_meaning.specs.Typing.{check_written}
use Rattle.mz_check_meaning.specs.Lets.{new_name, decl_of}
use Rattle.mz_check_meaning.specs.Headings.{Parameters, param_next, heading, written_in, with_type, with_types}
use Rattle.mz_check_meaning.specs.Checks.{untyped}
use Rattle.mz_analysis.proofs.Meanings.{uses_alike}
use Rattle.mz_analysis.proofs.Alike.{front_all, back_all, same_next, same_then, given_by, Gives, gives_next, Hides, bound_hides, told, UseAlike, Alike, type_alike}

-- ---- the first entry of a number in a list that grows

stays_case : {A : Type 0} (b : Bool) (y x : A) (o p : Option A) → (if b then Some y else o) ≡ Some x → (o ≡ Some x → p ≡ Some x) → (if b then Some y else p) ≡ Some x
stays_case true y x o p e k = e
stays_case false y x o p e k = k e

entry_stays : {A : Type 0} (n : ℕ) (xs ys : List (ℕ × A)) (x : A) → entry_of n xs ≡ Some x → entry_of n (xs ++ ys) ≡ Some x
unfolding entry_of
entry_stays n [] ys x e = absurd (cc)
entry_stays n (y ∷ xs) ys x e = stays_case (nat_eq y.0 n) y.1 x (entry_of n xs) (entry_of n (xs ++ ys)) e (entry_stays n xs ys x)

last_case : {A : Type 0} (b : Bool) (y x : A) (o p : Option A) → (if b then Some y else o) ≡ None → (o ≡ None → p ≡ Some x) → (if b then Some y else p) ≡ Some x
last_case true y x o p e k = absurd (cc)
last_case false y x o p e k = k e

entry_last : {A : Type 0} (n : ℕ) (xs : List (ℕ × A)) (x : A) → entry_of n xs ≡ None → entry_of n (xs ++ (n, x) ∷ []) ≡ Some x
unfolding entry_of
entry_last n [] x e = ap (λ b. if b then Some x else None) (eq-eqb n n refl)
entry_last n (y ∷ xs) x e = last_case (nat_eq y.0 n) y.1 x (entry_of n xs) (entry_of n (xs ++ (n, x) ∷ [])) e (entry_last n xs x)

entry_other : {A : Type 0} (n k : ℕ) (xs : List (ℕ × A)) (x : A) → nat_eq k n ≡ false → entry_of n (xs ++ (k, x) ∷ []) ≡ entry_of n xs
unfolding entry_of
entry_other n k [] x e = ap (λ b. if b then Some x else None) e
entry_other n k (y ∷ xs) x e = ap (λ o. if nat_eq y.0 n then Some y.1 else o) (entry_other n k xs x e)

-- ---- subjects

same_decl : (d e : ℕ) → (d ≡ e → ⊥) → of_decl d ≡ of_decl e → ⊥
same_decl d e differ is = differ (cc)

same_function : (f g : ℕ) → (f ≡ g → ⊥) → of_function f ≡ of_function g → ⊥
same_function f g differ is = differ (cc)

decls_or_not : (d e : ℕ) → (d ≡ e) ⊎ (d ≡ e → ⊥) → (of_decl d ≡ of_decl e) ⊎ (of_decl d ≡ of_decl e → ⊥)
decls_or_not d e (inl is) = inl (ap of_decl is)
decls_or_not d e (inr not) = inr (same_decl d e not)

functions_or_not : (f g : ℕ) → (f ≡ g) ⊎ (f ≡ g → ⊥) → (of_function f ≡ of_function g) ⊎ (of_function f ≡ of_function g → ⊥)
functions_or_not f g (inl is) = inl (ap of_function is)
functions_or_not f g (inr not) = inr (same_function f g not)

one_or_not : (x y : Subject) → (x ≡ y) ⊎ (x ≡ y → ⊥)
one_or_not (of_decl d) (of_decl e) = decls_or_not d e (same_or_not d e)
one_or_not (of_decl d) (of_function g) = inr (λ is. absurd (cc))
one_or_not (of_function f) (of_decl e) = inr (λ is. absurd (cc))
one_or_not (of_function f) (of_function g) = functions_or_not f g (same_or_not f g)

among_case : (x y : Subject) (ys : List Subject) → (x ≡ y) ⊎ (x ≡ y → ⊥) → IsAmong x ys ⊎ (IsAmong x ys → ⊥) → IsAmong x (y ∷ ys) ⊎ (IsAmong x (y ∷ ys) → ⊥)
among_case x y ys (inl is) k = inl (inl is)
among_case x y ys (inr not) (inl there) = inl (inr there)
among_case x y ys (inr not) (inr none) = inr (λ a. elim a [ inl is ↦ not is | inr there ↦ none there ])

pub among_or_not : (x : Subject) (ys : List Subject) → IsAmong x ys ⊎ (IsAmong x ys → ⊥)
among_or_not x [] = inr (λ a. a)
among_or_not x (y ∷ ys) = among_case x y ys (one_or_not x y) (among_or_not x ys)

pub among_front : (x : Subject) (xs ys : List Subject) → IsAmong x xs → IsAmong x (xs ++ ys)
among_front x [] ys a = elim a [ ]
among_front x (y ∷ xs) ys a = elim a [ inl is ↦ inl is | inr there ↦ inr (among_front x xs ys there) ]

among_last : (x y : Subject) (xs : List Subject) → IsAmong x (xs ++ y ∷ []) → IsAmong x xs ⊎ (x ≡ y)
among_last x y [] a = elim a [ inl is ↦ inr is | inr none ↦ absurd none ]
among_last x y (z ∷ xs) a = elim a [ inl is ↦ inl (inl is) | inr there ↦ elim (among_last x y xs there) [ inl h ↦ inl (inr h) | inr h ↦ inr h ] ]

-- where a subject is first in a list
pub record IsFirst (x : Subject) (xs : List Subject) : Type 0 where
  pub front : List Subject
  pub back : List Subject
  pub is : xs ≡ front ++ x ∷ back
  pub new : IsAmong x front → ⊥

first_case : (x y : Subject) (ys : List Subject) → (x ≡ y) ⊎ (x ≡ y → ⊥) → (IsAmong x ys → IsFirst x ys) → IsAmong x (y ∷ ys) → IsFirst x (y ∷ ys)
first_case x y ys (inl is) k a = record { front = []; back = ys; is = ap (λ z. z ∷ ys) (sym is); new = λ none. none }
first_case x y ys (inr not) k a =
    let there : IsAmong x ys = elim a [ inl is ↦ absurd (not is) | inr h ↦ h ] in
    let f = k there in
    record { front = y ∷ f.front; back = f.back; is = ap (λ z. y ∷ z) f.is; new = λ h. elim h [ inl is ↦ not is | inr g ↦ f.new g ] }

pub first_of : (x : Subject) (xs : List Subject) → IsAmong x xs → IsFirst x xs
first_of x [] a = elim a [ ]
first_of x (y ∷ ys) a = first_case x y ys (one_or_not x y) (first_of x ys) a

-- ---- what a model knows of a subject

abbrev pub SameEntry : Subject → Model → Model → Type 0
SameEntry (of_decl d) m o = entry_of d m.types ≡ entry_of d o.types
SameEntry (of_function f) m o = entry_of f m.headings ≡ entry_of f o.headings

abbrev IsThere : Subject → Model → Type 0
IsThere (of_decl d) m = (t : Test DeclaredType) × (entry_of d m.types ≡ Some t)
IsThere (of_function f) m = (t : Test Heading) × (entry_of f m.headings ≡ Some t)

abbrev IsNew : Subject → Model → Type 0
IsNew (of_decl d) m = entry_of d m.types ≡ None
IsNew (of_function f) m = entry_of f m.headings ≡ None

pub entry_then : (x : Subject) (m o p : Model) → SameEntry x m o → SameEntry x o p → SameEntry x m p
entry_then (of_decl d) m o p a b = a ∙ b
entry_then (of_function f) m o p a b = a ∙ b

pub entry_back : (x : Subject) (m o : Model) → SameEntry x m o → SameEntry x o m
entry_back (of_decl d) m o a = sym a
entry_back (of_function f) m o a = sym a

there_by : (x : Subject) (m o : Model) → SameEntry x m o → IsThere x m → IsThere x o
there_by (of_decl d) m o a there = (there.0, sym a ∙ there.1)
there_by (of_function f) m o a there = (there.0, sym a ∙ there.1)

new_by : (x : Subject) (m o : Model) → SameEntry x m o → IsNew x m → IsNew x o
new_by (of_decl d) m o a new = sym a ∙ new
new_by (of_function f) m o a new = sym a ∙ new

module _ (s : ScopedTree) where
  -- one more type
  step_stays : (m : Model) (x y : Subject) → IsThere x m → SameEntry x m (with_type s m y)
  step_stays m (of_decl d) (of_decl e) there = there.1 ∙ sym (entry_stays d m.types _ there.0 there.1)
  step_stays m (of_decl d) (of_function g) there = refl
  step_stays m (of_function f) (of_decl e) there = refl
  step_stays m (of_function f) (of_function g) there = there.1 ∙ sym (entry_stays f m.headings _ there.0 there.1)

  step_other : (m : Model) (x y : Subject) → (x ≡ y → ⊥) → SameEntry x m (with_type s m y)
  step_other m (of_decl d) (of_decl e) not = sym (entry_other d e m.types _ (ne_eqb e d (λ is. not (ap of_decl (sym is)))))
  step_other m (of_decl d) (of_function g) not = refl
  step_other m (of_function f) (of_decl e) not = refl
  step_other m (of_function f) (of_function g) not = sym (entry_other f g m.headings _ (ne_eqb g f (λ is. not (ap of_function (sym is)))))

  stays : (m : Model) (x : Subject) (ys : List Subject) → IsThere x m → SameEntry x m (with_types s m ys)
  unfolding with_types
  stays m (of_decl d) [] there = refl
  stays m (of_function f) [] there = refl
  stays m x (y ∷ ys) there = let one = step_stays m x y there in entry_then x m (with_type s m y) (with_types s (with_type s m y) ys) one (stays (with_type s m y) x ys (there_by x m (with_type s m y) one there))

  none_of : (m : Model) (x : Subject) (ys : List Subject) → (IsAmong x ys → ⊥) → SameEntry x m (with_types s m ys)
  unfolding with_types
  none_of m (of_decl d) [] none = refl
  none_of m (of_function f) [] none = refl
  none_of m x (y ∷ ys) none = entry_then x m (with_type s m y) (with_types s (with_type s m y) ys) (step_other m x y (λ is. none (inl is))) (none_of (with_type s m y) x ys (λ a. none (inr a)))

  both_orders : (m : Model) (xs ys : List Subject) → with_types s m (xs ++ ys) ≡ with_types s (with_types s m xs) ys
  unfolding with_types
  both_orders m [] ys = refl
  both_orders m (x ∷ xs) ys = both_orders (with_type s m x) xs ys

  -- what a subject is typed to
  abbrev pub IsTypedTo : Subject → Model → Model → Type 0
  IsTypedTo (of_decl d) m o = entry_of d o.types ≡ Some (check_written m (written_in (decl_at s.decls d)) (outermost m))
  IsTypedTo (of_function f) m o = entry_of f o.headings ≡ Some (heading m (function_at s.functions f))

  typed_new : (m : Model) (x : Subject) → IsNew x m → IsTypedTo x m (with_type s m x)
  typed_new m (of_decl d) new = entry_last d m.types _ new
  typed_new m (of_function f) new = entry_last f m.headings _ new

  typed_there : (m o : Model) (x : Subject) → IsTypedTo x m o → IsThere x o
  typed_there m o (of_decl d) is = (_, is)
  typed_there m o (of_function f) is = (_, is)

  pub typed_by : (m o p : Model) (x : Subject) → IsTypedTo x m o → SameEntry x o p → IsTypedTo x m p
  typed_by m o p (of_decl d) is same = sym same ∙ is
  typed_by m o p (of_function f) is same = sym same ∙ is

  -- both models type it alike
  abbrev pub TypedAlike : Subject → Model → Model → Type 0
  TypedAlike (of_decl d) m o = check_written m (written_in (decl_at s.decls d)) (outermost m) ≡ check_written o (written_in (decl_at s.decls d)) (outermost o)
  TypedAlike (of_function f) m o = heading m (function_at s.functions f) ≡ heading o (function_at s.functions f)

  same_typed : (x : Subject) (m o p q : Model) → IsTypedTo x m p → IsTypedTo x o q → TypedAlike x m o → SameEntry x p q
  same_typed (of_decl d) m o p q a b same = a ∙ ap Some same ∙ sym b
  same_typed (of_function f) m o p q a b same = a ∙ ap Some same ∙ sym b

  module _ (table : List (List ℕ)) where
    abbrev pub T : List Subject → Model
    T xs = with_types s (untyped table s) xs

    nothing_new : (x : Subject) → IsNew x (untyped table s)
    unfolding untyped entry_of
    nothing_new (of_decl d) = refl
    nothing_new (of_function f) = refl

    new_after : (x : Subject) (xs : List Subject) → (IsAmong x xs → ⊥) → IsNew x (T xs)
    new_after x xs none = new_by x (untyped table s) (T xs) (none_of (untyped table s) x xs none) (nothing_new x)

    pub one_more : (xs : List Subject) (x : Subject) → T (xs ++ x ∷ []) ≡ with_type s (T xs) x
    unfolding with_types
    one_more xs x = both_orders (untyped table s) xs (x ∷ [])

    -- a subject is typed where it is first
    pub typed_first : (x : Subject) (front back : List Subject) → (IsAmong x front → ⊥) → IsTypedTo x (T front) (T (front ++ x ∷ back))
    unfolding with_types
    typed_first x front back new =
        let now = typed_new (T front) x (new_after x front new) in
        subst (IsTypedTo x (T front)) (sym (both_orders (untyped table s) front (x ∷ back)))
        (typed_by (T front) (with_type s (T front) x) (with_types s (with_type s (T front) x) back) x now (stays (with_type s (T front) x) x back (typed_there (T front) (with_type s (T front) x) x now)))

    there_among : (x : Subject) (xs : List Subject) → IsAmong x xs → IsThere x (T xs)
    there_among x xs a = let f = first_of x xs a in subst (λ ys. IsThere x (T ys)) (sym f.is) (typed_there (T f.front) (T (f.front ++ x ∷ f.back)) x (typed_first x f.front f.back f.new))

    pub stays_among : (x : Subject) (xs ys : List Subject) → IsAmong x xs → SameEntry x (T xs) (T (xs ++ ys))
    stays_among x xs ys a = subst (SameEntry x (T xs)) (sym (both_orders (untyped table s) xs ys)) (stays (T xs) x ys (there_among x xs a))

    -- ---- two models that know alike what a subject's types need type it alike

    pub is_told : (m : Model) (xs : List Subject) → with_types s m xs ≡ told m (with_types s m xs).types (with_types s m xs).headings
    unfolding with_types
    is_told m [] = refl
    is_told m (of_decl d ∷ xs) = is_told (with_type s m (of_decl d)) xs
    is_told m (of_function f ∷ xs) = is_told (with_type s m (of_function f)) xs

    nothing_hidden : (m : Model) → Hides [] (outermost m)
    nothing_hidden m n e = refl

    module _ (ts us : List (ℕ × Test DeclaredType)) (hs ks : List (ℕ × Test Heading)) where
      abbrev b : Model
      b = untyped table s

      abbrev left : Model
      left = told b ts hs

      abbrev right : Model
      right = told b us ks

      declared_alike : (d : Declaration) → Alike b ts us hs ks (decl_sketch d).types → check_written left (written_in d) (outermost left) ≡ check_written right (written_in d) (outermost right)
      declared_alike (source.declaration t n at e) a = type_alike b ts us hs ks [] t a (outermost left) (nothing_hidden left)

      abbrev with_param : Parameters → Name → Span → DeclaredType → Test Parameters
      with_param acc n at u = Ok (record { params = acc.params ++ decl_of acc.env n at u None ∷ []; env = bind n u.ty acc.env })

      abbrev after_type : ℕ → Parameters → Name → Span → DeclaredType → Test Parameters
      after_type k acc n at u = new_name k n at acc.env >>= λ v. with_param acc n at u

      param_alike : (h : List Name) (k : ℕ) (acc : Parameters) (t : Written) (n : Name) (at : Span) (e : source.Maybe) → Hides h acc.env → Alike b ts us hs ks (in_written h t) → param_next left k acc (source.declaration t n at e) ≡ param_next right k acc (source.declaration t n at e)
      param_alike h k acc t n at e hides a = same_then (check_written left t acc.env) (check_written right t acc.env) (after_type k acc n at) (type_alike b ts us hs ks h t a acc.env hides)

      param_hides : (m : Model) (h : List Name) (k : ℕ) (acc : Parameters) (t : Written) (n : Name) (at : Span) (e : source.Maybe) → Hides h acc.env → Gives (λ (z : Parameters). Hides (with_name h n) z.env) (param_next m k acc (source.declaration t n at e))
      param_hides m h k acc t n at e hides =
          gives_next (λ (z : Parameters). Hides (with_name h n) z.env) (check_written m t acc.env) (after_type k acc n at)
          (λ u i. gives_next (λ (z : Parameters). Hides (with_name h n) z.env) (new_name k n at acc.env) (λ v. with_param acc n at u) (λ v j. bound_hides h acc.env n u.ty hides))

      params_alike : (h : List Name) (k : ℕ) (ps : List Declaration) (acc : Parameters) → Hides h acc.env → Alike b ts us hs ks (in_parameters h ps) → loop (param_next left k) acc ps ≡ loop (param_next right k) acc ps
      unfolding in_parameters
      params_alike h k [] acc hides a = refl
      params_alike h k (source.declaration t n at e ∷ ps) acc hides a =
          same_next (param_next left k acc (source.declaration t n at e)) (param_next right k acc (source.declaration t n at e)) (λ z. loop (param_next left k) z ps) (λ z. loop (param_next right k) z ps)
          (param_alike h k acc t n at e hides (front_all (UseAlike b ts us hs ks) (in_written h t) (in_parameters (with_name h n) ps) a))
          (λ z i. params_alike (with_name h n) k ps z (given_by (λ (y : Parameters). Hides (with_name h n) y.env) (param_next left k acc (source.declaration t n at e)) z i (param_hides left h k acc t n at e hides)) (back_all (UseAlike b ts us hs ks) (in_written h t) (in_parameters (with_name h n) ps) a))

      params_hide : (m : Model) (h : List Name) (k : ℕ) (ps : List Declaration) (acc : Parameters) → Hides h acc.env → Gives (λ (z : Parameters). Hides (with_parameters h ps) z.env) (loop (param_next m k) acc ps)
      unfolding with_parameters
      params_hide m h k [] acc hides = hides
      params_hide m h k (source.declaration t n at e ∷ ps) acc hides =
          gives_next (λ (z : Parameters). Hides (with_parameters (with_name h n) ps) z.env) (param_next m k acc (source.declaration t n at e)) (λ z. loop (param_next m k) z ps)
          (λ z i. params_hide m (with_name h n) k ps z (given_by (λ (y : Parameters). Hides (with_name h n) y.env) (param_next m k acc (source.declaration t n at e)) z i (param_hides m h k acc t n at e hides)))

      abbrev no_params : Parameters
      no_params = record { params = []; env = outermost b }

      abbrev with_result : Parameters → DeclaredType → Test Heading
      with_result ps r = Ok (record { params = ps.params; result = r })

      heading_alike : (f : FunctionTree) → Alike b ts us hs ks (function_sketch f).types → heading left f ≡ heading right f
      unfolding heading
      heading_alike f a =
          same_next (loop (param_next left b.count) no_params f.params) (loop (param_next right b.count) no_params f.params) (λ ps. check_written left f.result ps.env >>= with_result ps) (λ ps. check_written right f.result ps.env >>= with_result ps)
          (params_alike [] b.count f.params no_params (nothing_hidden b) (front_all (UseAlike b ts us hs ks) (in_parameters [] f.params) (in_written (with_parameters [] f.params) f.result) a))
          (λ ps i. same_then (check_written left f.result ps.env) (check_written right f.result ps.env) (with_result ps) (type_alike b ts us hs ks (with_parameters [] f.params) f.result (back_all (UseAlike b ts us hs ks) (in_parameters [] f.params) (in_written (with_parameters [] f.params) f.result) a) ps.env
          (given_by (λ (z : Parameters). Hides (with_parameters [] f.params) z.env) (loop (param_next left b.count) no_params f.params) ps i (params_hide left [] b.count f.params no_params (nothing_hidden b)))))

    -- what two lists of subjects have in common is known alike after them
    abbrev pub Agree : List Subject → List Subject → Type 0
    Agree p q = (y : Subject) → IsAmong y p → IsAmong y q → SameEntry y (T p) (T q)

    needs_alike : (uses : List NameUse) (p q : List Subject) → AreTyped s uses p → AreTyped s uses q → Agree p q → Alike (untyped table s) (T p).types (T q).types (T p).headings (T q).headings uses
    needs_alike uses p q a c agree =
        uses_alike s table uses (T p).types (T q).types (T p).headings (T q).headings
        (λ d r. agree (of_decl d) (a.decls d r) (c.decls d r)) (λ f r. agree (of_function f) (a.functions f r) (c.functions f r))

    pub alike_after : (x : Subject) (p q : List Subject) → AreTyped s (types_in s x) p → AreTyped s (types_in s x) q → Agree p q → TypedAlike x (T p) (T q)
    alike_after (of_decl d) p q a c agree =
        subst (λ z. check_written z (written_in (decl_at s.decls d)) (outermost z) ≡ check_written (T q) (written_in (decl_at s.decls d)) (outermost (T q))) (sym (is_told (untyped table s) p))
        (subst (λ z. check_written (told (untyped table s) (T p).types (T p).headings) (written_in (decl_at s.decls d)) (outermost (untyped table s)) ≡ check_written z (written_in (decl_at s.decls d)) (outermost z)) (sym (is_told (untyped table s) q))
        (declared_alike (T p).types (T q).types (T p).headings (T q).headings (decl_at s.decls d) (needs_alike (types_in s (of_decl d)) p q a c agree)))
    alike_after (of_function f) p q a c agree =
        subst (λ z. heading z (function_at s.functions f) ≡ heading (T q) (function_at s.functions f)) (sym (is_told (untyped table s) p))
        (subst (λ z. heading (told (untyped table s) (T p).types (T p).headings) (function_at s.functions f) ≡ heading z (function_at s.functions f)) (sym (is_told (untyped table s) q))
        (heading_alike (T p).types (T q).types (T p).headings (T q).headings (function_at s.functions f) (needs_alike (types_in s (of_function f)) p q a c agree)))

    -- ---- all that two orders have in common is known alike

    pub needs_at : (before front : List Subject) (x : Subject) (back : List Subject) → ComeAfterNeeds s before (front ++ x ∷ back) → AreTyped s (types_in s x) (before ++ front)
    needs_at before [] x back h = subst (AreTyped s (types_in s x)) (sym (append-nil before)) h.0
    needs_at before (y ∷ front) x back h = subst (AreTyped s (types_in s x)) (append_assoc before (y ∷ []) front) (needs_at (before ++ y ∷ []) front x back h.1)

    module _ (other : List Subject) (after : ComeAfterNeeds s [] other) where
      -- so far all is known as after the whole other order
      abbrev Agrees : List Subject → Type 0
      Agrees p = (y : Subject) → IsAmong y p → IsAmong y other → SameEntry y (T p) (T other)

      agree_front : (p front back : List Subject) → other ≡ front ++ back → Agrees p → Agree p front
      agree_front p front back is agrees y a c =
          let whole : SameEntry y (T p) (T other) = agrees y a (subst (IsAmong y) (sym is) (among_front y front back c)) in
          let part : SameEntry y (T front) (T other) = subst (λ z. SameEntry y (T front) (T z)) (sym is) (stays_among y front back c) in
          entry_then y (T p) (T other) (T front) whole (entry_back y (T front) (T other) part)

      next_new : (p : List Subject) (x : Subject) → AreTyped s (types_in s x) p → Agrees p → (IsAmong x p → ⊥) → IsAmong x other → SameEntry x (T (p ++ x ∷ [])) (T other)
      next_new p x typed agrees new there =
          let f = first_of x other there in
          let needs : AreTyped s (types_in s x) f.front = needs_at [] f.front x f.back (subst (ComeAfterNeeds s []) f.is after) in
          same_typed x (T p) (T f.front) (T (p ++ x ∷ [])) (T other) (typed_first x p [] new) (subst (λ z. IsTypedTo x (T f.front) (T z)) (sym f.is) (typed_first x f.front f.back f.new))
          (alike_after x p f.front typed needs (agree_front p f.front (x ∷ f.back) f.is agrees))

      next_case : (p : List Subject) (x y : Subject) → AreTyped s (types_in s x) p → Agrees p → IsAmong y p ⊎ (IsAmong y p → ⊥) → IsAmong y (p ++ x ∷ []) → IsAmong y other → SameEntry y (T (p ++ x ∷ [])) (T other)
      next_case p x y typed agrees (inl before) a there =
          entry_then y (T (p ++ x ∷ [])) (T p) (T other) (entry_back y (T p) (T (p ++ x ∷ [])) (stays_among y p (x ∷ []) before)) (agrees y before there)
      next_case p x y typed agrees (inr not) a there = elim (among_last y x p a) [
        | inl before ↦ absurd (not before)
        | inr is ↦ subst (λ z. SameEntry z (T (p ++ x ∷ [])) (T other)) (sym is) (next_new p x typed agrees (subst (λ z. IsAmong z p → ⊥) is not) (subst (λ z. IsAmong z other) is there))
      ]

      all_agree : (p rest : List Subject) → ComeAfterNeeds s p rest → Agrees p → Agrees (p ++ rest)
      all_agree p [] h agrees = subst Agrees (sym (append-nil p)) agrees
      all_agree p (x ∷ rest) h agrees = subst Agrees (append_assoc p (x ∷ []) rest) (all_agree (p ++ x ∷ []) rest h.1 (λ y a there. next_case p x y h.0 agrees (among_or_not y p) a there))

    pub same_entries : (order other : List Subject) → ComeAfterNeeds s [] order → ComeAfterNeeds s [] other → Agree order other
    same_entries order other h k = all_agree other k [] order h (λ y none there. absurd none)
