-- Tables of types in which the next one is new.
use Rattle.std.proofs.Common.{◌≡◌, ◌∙◌, ℕ, Bool, true, false, cond, List, [], ◌∷◌, ◌++◌, Option, Some, None, Bor, arith, ◌+◌, ◌<◌, ◌≤◌, map, drop, length, get_or, inl, inr, refl, sym, ap, subst}
use Rattle.std.specs.Prelude.{nat_eq, slice_get}
use Rattle.std.proofs.lemmas.Bool.{ne_eqb}
use Rattle.std.specs.Slice.{IsItemAt}
use Rattle.std.proofs.lemmas.List.{drop_more, get_or-map, length-map}
use Rattle.std.proofs.lemmas.Option.{slice_get-get_or, slice_get_past}
use Rattle.std.proofs.Math.ListN.{drop_of_length-le}
use Rattle.mz_scope_order.specs.Scoped.{ScopedTree}
use Rattle.mz_scope_order.specs.declared.subject.Subject.{Subject as Typed}
use Rattle.mz_scope_order.specs.declared.subject.Subject.TheVariants.{Decl}
use Rattle.mz_scope_order.specs.Subjects.{subject, IsOf, AreOf, AreOnce, Subject, of_decl, of_function, IsAmong}
use Rattle.mz_check_meaning.specs.Models.{Model, entry_of}
use Rattle.mz_check_meaning.specs.Headings.{with_type, with_types}
use Rattle.mz_check_exprs.specs.NewSubjects.{IsNew, AreNew}
use Rattle.mz_check_exprs.specs.StepsTypes.{IfThere, with_there}

not_last : {A : Type 0} (n k : ℕ) (x : A) (es : List (ℕ × A)) → (k ≡ n → ⊥) → entry_of n es ≡ None → entry_of n (es ++ (k, x) ∷ []) ≡ None
unfolding entry_of
not_last n k x [] other none = ap (λ b. cond b (Some x) None) (ne_eqb k n other)
not_last n k x (e ∷ es) other none = later (nat_eq e.0 n) (entry_of n es) (entry_of n (es ++ (k, x) ∷ [])) e.1 none (λ rest. not_last n k x es other rest)
  where
    later : {A : Type 0} (b : Bool) (o p : Option A) (y : A) → cond b (Some y) o ≡ None → (o ≡ None → p ≡ None) → cond b (Some y) p ≡ None
    later true o p y h step = absurd (cc)
    later false o p y h step = step h

-- a subject that is another stays new
still_new : (s : ScopedTree) (m : Model) (x y : Subject) → (y ≡ x → ⊥) → IsNew m y → IsNew (with_type s m x) y
still_new s m (of_decl d) (of_decl e) other new = not_last e d _ m.types (λ same. other (ap (λ n. of_decl n) (sym same))) new
still_new s m (of_decl d) (of_function f) other new = new
still_new s m (of_function f) (of_decl d) other new = new
still_new s m (of_function f) (of_function g) other new = not_last g f _ m.headings (λ same. other (ap (λ n. of_function n) (sym same))) new

still_all_new : (s : ScopedTree) (m : Model) (x : Subject) (xs : List Subject) → (IsAmong x xs → ⊥) → AreNew m xs → AreNew (with_type s m x) xs
still_all_new s m x [] once new = tt
still_all_new s m x (y ∷ ys) once new =
    (still_new s m x y (λ same. once (inl (sym same))) new.0, (new.1.0, still_all_new s m x ys (λ there. once (inr there)) new.1.1))

-- the first is typed, and the rest is new
pub rest_new : (s : ScopedTree) (m : Model) (x : Subject) (xs : List Subject) → AreNew m (x ∷ xs) → AreNew (with_type s m x) xs
rest_new s m x xs new = still_all_new s m x xs new.1.0 new.1.1

pub texts_kept : (s : ScopedTree) (m : Model) (x : Subject) → (with_type s m x).texts ≡ m.texts
texts_kept s m (of_decl d) = refl
texts_kept s m (of_function f) = refl

-- where nothing is typed yet, subjects that stand once are new
pub all_new : (m : Model) (xs : List Subject) → m.types ≡ [] → m.headings ≡ [] → AreOnce xs → AreNew m xs
unfolding entry_of
all_new m [] types headings once = tt
all_new m (of_decl d ∷ xs) types headings once = (ap (λ es. entry_of d es) types, (once.0, all_new m xs types headings once.1))
all_new m (of_function f ∷ xs) types headings once = (ap (λ es. entry_of f es) headings, (once.0, all_new m xs types headings once.1))

-- one turn of the loop over subjects
pub record AreLeft (s : ScopedTree) (first m : Model) (xs order : List Subject) : Type 0 where
  pub typed : with_types s m xs ≡ with_types s first order
  pub texts : m.texts ≡ first.texts
  pub among : AreOf s xs
  pub new : AreNew m xs

pub none_typed : (s : ScopedTree) (m : Model) (order : List Subject) → AreOf s order → AreNew m order → AreLeft s m m order order
none_typed s m order among new = record { typed = refl; texts = refl; among = among; new = new }

pub one_typed : (s : ScopedTree) (first m next : Model) (x : Subject) (xs order : List Subject) → AreLeft s first m (x ∷ xs) order → next ≡ with_type s m x → AreLeft s first next xs order
unfolding with_types
one_typed s first m next x xs order l e =
    subst (λ (n : Model). AreLeft s first n xs order) (sym e) (record {
      typed = l.typed;
      texts = texts_kept s m x ∙ l.texts;
      among = l.among.1;
      new = rest_new s m x xs l.new;
    })

pub all_typed : (s : ScopedTree) (first m : Model) (order : List Subject) → AreLeft s first m [] order → m ≡ with_types s first order
unfolding with_types
all_typed s first m order l = l.typed

-- the same by the numbers of a list of the code

split_at : (order : List Typed) (k : ℕ) → k < length order → (x : Typed) × (drop k order ≡ x ∷ drop (k + 1) order) × (slice_get (map subject order) k ≡ Some (subject x))
split_at order k low =
    let d : Typed = Decl 0 in
    let l = length-map order subject in
    (get_or order k d, drop_more order k d low, slice_get-get_or (map subject order) k (subject d) (omega (arith, low, l)) ∙ ap (λ (x : Subject). Some x) (get_or-map subject order k d (subject d) low))

pub next_typed : (s : ScopedTree) (first m next : Model) (order : List Typed) (k : ℕ) → AreLeft s first m (map subject (drop k order)) (map subject order) → k < length order → next ≡ with_there s m (slice_get (map subject order) k) → AreLeft s first next (map subject (drop (k + 1) order)) (map subject order)
next_typed s first m next order k l low e =
    let p = split_at order k low in
    one_typed s first m next (subject p.0) (map subject (drop (k + 1) order)) (map subject order)
    (subst (λ (xs : List Typed). AreLeft s first m (map subject xs) (map subject order)) p.1 l)
    (e ∙ ap (with_there s m) p.2)

-- the one there is of the model, and new
pub there_left : (s : ScopedTree) (first m : Model) (order : List Typed) (k : ℕ) → AreLeft s first m (map subject (drop k order)) (map subject order) → k < length order → IfThere (slice_get (map subject order) k) (IsOf s) × IfThere (slice_get (map subject order) k) (IsNew m)
there_left s first m order k l low =
    let p = split_at order k low in
    let left = subst (λ (xs : List Typed). AreLeft s first m (map subject xs) (map subject order)) p.1 l in
    (subst (λ (o : Option Subject). IfThere o (IsOf s)) (sym p.2) left.among.0, subst (λ (o : Option Subject). IfThere o (IsNew m)) (sym p.2) left.new.0)

pub end_typed : (s : ScopedTree) (first m : Model) (order : List Typed) (k : ℕ) → AreLeft s first m (map subject (drop k order)) (map subject order) → length order ≤ k → m ≡ with_types s first (map subject order)
end_typed s first m order k l past = all_typed s first m (map subject order) (subst (λ (xs : List Typed). AreLeft s first m (map subject xs) (map subject order)) (drop_of_length-le order past) l)

-- what a slice lends

lent_case : (xs : List Typed) (k : ℕ) (x : Bor Typed) → IsItemAt xs k (Some x) → slice_get (map subject xs) k ≡ Some (subject x.now)
lent_case xs k x item =
    let low = item.3.0 in
    let l = length-map xs subject in
    slice_get-get_or (map subject xs) k (subject x.now) (omega (arith, low, l)) ∙ ap (λ (y : Subject). Some y) (get_or-map subject xs k x.now (subject x.now) low ∙ ap subject (sym item.1))

pub lent_some : (xs : List Typed) (k : ℕ) (r : Option (Bor Typed)) (x : Bor Typed) → IsItemAt xs k r → r ≡ Some x → slice_get (map subject xs) k ≡ Some (subject x.now)
lent_some xs k r x item is = lent_case xs k x (subst (λ (o : Option (Bor Typed)). IsItemAt xs k o) is item)

none_case : (xs : List Typed) (k : ℕ) → IsItemAt xs k None → slice_get (map subject xs) k ≡ None
none_case xs k item = let past = item.3 in let l = length-map xs subject in slice_get_past (map subject xs) k (omega (arith, past, l))

pub lent_none : (xs : List Typed) (k : ℕ) (r : Option (Bor Typed)) → IsItemAt xs k r → r ≡ None → slice_get (map subject xs) k ≡ None
lent_none xs k r item is = none_case xs k (subst (λ (o : Option (Bor Typed)). IsItemAt xs k o) is item)
