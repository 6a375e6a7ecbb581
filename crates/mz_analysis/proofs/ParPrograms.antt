-- The declarations of a program are those of its sections, each once, in another order.
use Rattle.std.proofs.Common.{◌≡◌, ◌∙◌, ℕ, zero, suc, ◌+◌, ◌<◌, ◌≤◌, ◌⊎◌, inl, inr, Bool, true, false, cond, List, [], ◌∷◌, ◌++◌, Some, Ok, map, length, get_or, eqb, arith, refl, sym, ap, subst, append_assoc, append-nil}
use Rattle.std.specs.Prelude.{slice_get}
use Rattle.std.specs.List.{enumerate_from}
use Rattle.std.proofs.lemmas.Bool.{eqb-true, eqb-false}
use Rattle.mz_core.specs.Tree.{Decl}
use Rattle.mz_tree.specs.Tree as source
use Rattle.mz_tree.specs.Tree.{Declaration}
use Rattle.mz_check_meaning.specs.Tests.{Test, ◌>>=◌, loop, one_more, each}
use Rattle.mz_check_meaning.specs.Models.{Model, type_of_decl}
use Rattle.mz_check_meaning.specs.Items.{value_of, decl}
use Rattle.mz_check_meaning.proofs.Giving.{AllBy, Gives, gives_then, gives_after, gives_more}

-- ---- the slots of declarations are their numbers

abbrev pub AreNumbered : ℕ → List Decl → Type 0
AreNumbered k [] = Unit {0}
AreNumbered k (d ∷ ds) = (d.slot ≡ k) × AreNumbered (k + 1) ds

-- so are those of the declarations that are added to these
abbrev pub Adds : List Decl → ℕ → List Decl → Type 0
Adds done k ds = (more : List Decl) × (ds ≡ done ++ more) × AreNumbered k more

module _ (m : Model) where
  slot_is : (k : ℕ) (d : Declaration) → Gives (decl m k d) (λ x. x.slot ≡ k)
  unfolding decl
  slot_is k (source.declaration t n at e) =
      gives_after (λ x. x.slot ≡ k) (type_of_decl m at k) (λ u. value_of m u.ty e >>= λ v. Ok (record { slot = k; name = n; span = at; ty = u; value = v })) (λ u.
      gives_after (λ x. x.slot ≡ k) (value_of m u.ty e) (λ v. Ok (record { slot = k; name = n; span = at; ty = u; value = v })) (λ v. refl))

  adds_one : (done : List Decl) (k : ℕ) (x : Decl) (ds : List Decl) → x.slot ≡ k → Adds (done ++ x ∷ []) (k + 1) ds → Adds done k ds
  adds_one done k x ds e h = (x ∷ h.0, h.1 ∙ append_assoc done (x ∷ []) h.0, (e, h.2))

  all_add : (done : List Decl) (k : ℕ) (ds : List Declaration) → Gives (loop (one_more (λ d. decl m d.0 d.1)) done (enumerate_from k ds)) (Adds done k)
  all_add done k [] = ([], sym (append-nil done), tt)
  all_add done k (d ∷ ds) =
      let go : ℕ × Declaration → Test Decl = λ d. decl m d.0 d.1 in
      gives_then (λ next. (x : Decl) × (next ≡ done ++ x ∷ []) × (x.slot ≡ k)) (Adds done k) (one_more go done (k, d)) (λ next. loop (one_more go) next (enumerate_from (k + 1) ds))
      (gives_then (λ x. x.slot ≡ k) (λ next. (x : Decl) × (next ≡ done ++ x ∷ []) × (x.slot ≡ k)) (decl m k d) (λ x. Ok (done ++ x ∷ [])) (slot_is k d) (λ x e. (x, refl, e)))
      (λ next h. gives_more (Adds next (k + 1)) (Adds done k) (loop (one_more go) next (enumerate_from (k + 1) ds)) (λ out a. adds_one done k h.0 out h.2 (subst (λ l. Adds l (k + 1) out) h.1 a)) (all_add next (k + 1) ds))

  pub decls_numbered : (ds : List Declaration) → Gives (each (λ d. decl m d.0 d.1) (enumerate_from 0 ds)) (AreNumbered 0)
  decls_numbered ds = gives_more (Adds [] 0) (AreNumbered 0) (each (λ d. decl m d.0 d.1) (enumerate_from 0 ds)) (λ out a. subst (AreNumbered 0) (sym a.1) a.2) (all_add [] 0 ds)

pub numbered_from : (k : ℕ) (ds : List Decl) → ((i : ℕ) (d : Decl) → i < length ds → (get_or ds i d).slot ≡ k + i) → AreNumbered k ds
numbered_from k [] h = tt
numbered_from k (d ∷ ds) h = (h 0 d (omega arith) ∙ (let z : k + 0 ≡ k = omega arith in z), numbered_from (k + 1) ds (λ i e low. h (suc i) e (omega (arith, low)) ∙ (let z : k + suc i ≡ k + 1 + i = omega arith in z)))

pub slot_at : (k : ℕ) (ds : List Decl) (i : ℕ) (d : Decl) → AreNumbered k ds → i < length ds → (get_or ds i d).slot ≡ k + i
slot_at k [] i d h low = absurd (omega (arith, low))
slot_at k (x ∷ xs) zero d h low = h.0 ∙ omega arith
slot_at k (x ∷ xs) (suc i) d h low = slot_at (k + 1) xs i d h.1 (omega (arith, low)) ∙ omega arith

-- ---- where the sections' declarations are in the program

at_some : (es : List Decl) (k : ℕ) (x d : Decl) → slice_get es k ≡ Some x → (k < length es) × (get_or es k d ≡ x)
at_some [] k x d h = absurd (cc h)
at_some (e ∷ es) zero x d h = (omega arith, cc h)
at_some (e ∷ es) (suc k) x d h = let r = at_some es k x d h in (omega (arith, r.0), r.1)

there : (es : List Decl) (ks : List ℕ) (ds : List Decl) (i : ℕ) (d : Decl) → map (slice_get es) ks ≡ map Some ds → i < length ds → slice_get es (get_or ks i 0) ≡ Some (get_or ds i d)
there es ks [] i d h low = absurd (omega (arith, low))
there es [] (x ∷ xs) i d h low = absurd (cc h)
there es (k ∷ ks) (x ∷ xs) zero d h low = cc h
there es (k ∷ ks) (x ∷ xs) (suc i) d h low = let r : map (slice_get es) ks ≡ map Some xs = cc h in there es ks xs i d r (omega (arith, low))

-- ---- numbers below n that are sent to as many, each to another one, miss none of these

abbrev IsInto : (ℕ → ℕ) → ℕ → ℕ → Type 0
IsInto o n m = (i : ℕ) → i < n → o i < m

abbrev IsOneToOne : (ℕ → ℕ) → ℕ → Type 0
IsOneToOne o n = (i j : ℕ) → i < n → j < n → o i ≡ o j → i ≡ j

-- without the last of them, which takes the place of the one that is sent to m
abbrev without_last : (ℕ → ℕ) → ℕ → ℕ → ℕ → ℕ
without_last o n m i = cond (eqb (o i) m) (o n) (o i)

fewer_into : (o : ℕ → ℕ) (n m i : ℕ) (b : Bool) → eqb (o i) m ≡ b → IsInto o (suc n) (suc m) → IsOneToOne o (suc n) → i < n → cond b (o n) (o i) < m
fewer_into o n m i true e into one low =
    let is = eqb-true (o i) m e in
    let last = into n (omega arith) in
    let other : o n ≡ m → ⊥ = λ q. omega (arith, low, one i n (omega (arith, low)) (omega arith) (is ∙ sym q)) in
    omega (arith, last, other)
fewer_into o n m i false e into one low =
    let other = eqb-false (o i) m e in
    omega (arith, into i (omega (arith, low)), other)

fewer_apart : (o : ℕ → ℕ) (n m i j : ℕ) (b c : Bool) → eqb (o i) m ≡ b → eqb (o j) m ≡ c → IsOneToOne o (suc n) → i < n → j < n → cond b (o n) (o i) ≡ cond c (o n) (o j) → i ≡ j
fewer_apart o n m i j true true e f one p q same = one i j (omega (arith, p)) (omega (arith, q)) (eqb-true (o i) m e ∙ sym (eqb-true (o j) m f))
fewer_apart o n m i j true false e f one p q same = absurd (omega (arith, q, one n j (omega arith) (omega (arith, q)) same))
fewer_apart o n m i j false true e f one p q same = absurd (omega (arith, p, one i n (omega (arith, p)) (omega arith) same))
fewer_apart o n m i j false false e f one p q same = one i j (omega (arith, p)) (omega (arith, q)) same

few : (n m : ℕ) (o : ℕ → ℕ) → IsInto o n m → IsOneToOne o n → n ≤ m
few zero m o into one = omega arith
few (suc n) zero o into one = absurd (omega (arith, into n (omega arith)))
few (suc n) (suc m) o into one =
    omega (arith, few n m (without_last o n m) (λ i p. fewer_into o n m i (eqb (o i) m) refl into one p) (λ i j p q same. fewer_apart o n m i j (eqb (o i) m) (eqb (o j) m) refl refl one p q same))

abbrev Hit : (ℕ → ℕ) → ℕ → ℕ → Type 0
Hit o n k = (i : ℕ) × (i < n) × (o i ≡ k)

abbrev Missed : (ℕ → ℕ) → ℕ → ℕ → Type 0
Missed o n k = (i : ℕ) → i < n → o i ≡ k → ⊥

by_last : (o : ℕ → ℕ) (n k i : ℕ) (b : Bool) → eqb i n ≡ b → (o n ≡ k → ⊥) → Missed o n k → i < suc n → o i ≡ k → ⊥
by_last o n k i true e last miss low is = last (subst (λ j. o j ≡ k) (eqb-true i n e) is)
by_last o n k i false e last miss low is = let apart = eqb-false i n e in miss i (omega (arith, low, apart)) is

last_or : (o : ℕ → ℕ) (n k : ℕ) (b : Bool) → eqb (o n) k ≡ b → Hit o n k ⊎ Missed o n k → Hit o (suc n) k ⊎ Missed o (suc n) k
last_or o n k true e h = inl (n, omega arith, eqb-true (o n) k e)
last_or o n k false e (inl h) = inl (h.0, omega (arith, h.1), h.2)
last_or o n k false e (inr miss) = inr (λ i low is. by_last o n k i (eqb i n) refl (eqb-false (o n) k e) miss low is)

seek : (o : ℕ → ℕ) (n k : ℕ) → Hit o n k ⊎ Missed o n k
seek o zero k = inr (λ i low is. omega (arith, low))
seek o (suc n) k = last_or o n k (eqb (o n) k) refl (seek o n k)

-- with one more number, which is sent to the missed one
abbrev extended : (ℕ → ℕ) → ℕ → ℕ → ℕ → ℕ
extended o n k i = cond (eqb i n) k (o i)

more_into : (o : ℕ → ℕ) (n k i : ℕ) (b : Bool) → eqb i n ≡ b → IsInto o n n → k < n → i < suc n → cond b k (o i) < n
more_into o n k i true e into low high = low
more_into o n k i false e into low high = let apart = eqb-false i n e in into i (omega (arith, high, apart))

more_apart : (o : ℕ → ℕ) (n k i j : ℕ) (b c : Bool) → eqb i n ≡ b → eqb j n ≡ c → IsOneToOne o n → Missed o n k → i < suc n → j < suc n → cond b k (o i) ≡ cond c k (o j) → i ≡ j
more_apart o n k i j true true e f one miss p q same = eqb-true i n e ∙ sym (eqb-true j n f)
more_apart o n k i j true false e f one miss p q same = let apart = eqb-false j n f in absurd (miss j (omega (arith, q, apart)) (sym same))
more_apart o n k i j false true e f one miss p q same = let apart = eqb-false i n e in absurd (miss i (omega (arith, p, apart)) same)
more_apart o n k i j false false e f one miss p q same =
    let left = eqb-false i n e in
    let right = eqb-false j n f in
    one i j (omega (arith, p, left)) (omega (arith, q, right)) same

hit : (o : ℕ → ℕ) (n k : ℕ) → IsInto o n n → IsOneToOne o n → k < n → Hit o n k
hit o n k into one low = elim (seek o n k) [
  | inl h ↦ h
  | inr miss ↦ absurd (omega (arith, few (suc n) n (extended o n k) (λ i p. more_into o n k i (eqb i n) refl into low p) (λ i j p q same. more_apart o n k i j (eqb i n) (eqb j n) refl refl one miss p q same)))
]

-- ---- so what holds of all declarations of the sections holds of all of the program

from_places : (Q : Decl → Type 0) (ds : List Decl) → ((k : ℕ) (d : Decl) → k < length ds → Q (get_or ds k d)) → AllBy Q ds
from_places Q [] h = tt
from_places Q (d ∷ ds) h = (h 0 d (omega arith), from_places Q ds (λ k e low. h (suc k) e (omega (arith, low))))

at_place : (Q : Decl → Type 0) (ds : List Decl) (k : ℕ) (d : Decl) → AllBy Q ds → k < length ds → Q (get_or ds k d)
at_place Q [] k d h low = absurd (omega (arith, low))
at_place Q (x ∷ xs) zero d h low = h.0
at_place Q (x ∷ xs) (suc k) d h low = at_place Q xs k d h.1 (omega (arith, low))

module _ (es ds : List Decl) (order : List ℕ) (found : map (slice_get es) order ≡ map Some ds) (as_many : length es ≡ length ds) (numbered : AreNumbered 0 ds) where
  abbrev pub place : ℕ → ℕ
  place i = get_or order i 0

  pub placed : (i : ℕ) (d : Decl) → i < length ds → (place i < length es) × (get_or es (place i) d ≡ get_or ds i d)
  placed i d low = at_some es (get_or order i 0) (get_or ds i d) d (there es order ds i d found low)

  apart : (d : Decl) (i j : ℕ) → i < length ds → j < length ds → place i ≡ place j → i ≡ j
  apart d i j p q same =
      let same_decl : get_or ds i d ≡ get_or ds j d = sym (placed i d p).1 ∙ ap (λ k. get_or es k d) same ∙ (placed j d q).1 in
      let a = slot_at 0 ds i d numbered p in
      let b = slot_at 0 ds j d numbered q in
      let c : (get_or ds i d).slot ≡ (get_or ds j d).slot = ap (λ (x : Decl). x.slot) same_decl in
      omega (arith, a, b, c)

  -- the slot of a declaration tells its place
  pub by_slot : (k : ℕ) (d : Decl) → k < length es → ((get_or es k d).slot < length ds) × (get_or es k d ≡ get_or ds (get_or es k d).slot d) × (place (get_or es k d).slot ≡ k)
  by_slot k d low =
      let r = hit place (length ds) k (λ j p. omega (arith, (placed j d p).0, as_many)) (apart d) (omega (arith, low, as_many)) in
      let is : get_or es k d ≡ get_or ds r.0 d = ap (λ i. get_or es i d) (sym r.2) ∙ (placed r.0 d r.1).1 in
      let numbers : (get_or ds r.0 d).slot ≡ r.0 = slot_at 0 ds r.0 d numbered r.1 ∙ omega arith in
      let slot : (get_or es k d).slot ≡ r.0 = ap (λ (x : Decl). x.slot) is ∙ numbers in
      (subst (λ i. i < length ds) (sym slot) r.1, is ∙ ap (λ i. get_or ds i d) (sym slot), ap place slot ∙ r.2)

  one_holds : (Q : Decl → Type 0) → AllBy Q ds → (k : ℕ) (d : Decl) → k < length es → Q (get_or es k d)
  one_holds Q h k d low =
      let r = hit place (length ds) k (λ j p. omega (arith, (placed j d p).0, as_many)) (apart d) (omega (arith, low, as_many)) in
      subst Q (sym (placed r.0 d r.1).1 ∙ ap (λ i. get_or es i d) r.2) (at_place Q ds r.0 d h r.1)

  pub all_hold : (Q : Decl → Type 0) → AllBy Q ds → AllBy Q es
  all_hold Q h = from_places Q es (one_holds Q h)
