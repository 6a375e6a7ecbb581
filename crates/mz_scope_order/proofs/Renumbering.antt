-- Declarations in another order: what refers to what, and an order of types.
use Rattle.std.proofs.Common.{◌≡◌, ℕ, ◌-◌, ◌<◌, List, [], ◌∷◌, ◌++◌, refl, sym, ap, subst, ◌∙◌, ⊎_elim, inl, inr, map, length, arith}
use Rattle.std.specs.Prelude.{nat_lt, if◌then◌else◌, Bool, true, false}
use Rattle.std.proofs.lemmas.List.{length-map, get_or-map, map-append}
use Rattle.mz_graph.specs.Graph.{IsIn, number_of}
use Rattle.mz_graph.specs.Order.{IsComplete}
use Rattle.mz_graph.proofs.Membership.{in_at, place_of}
use Rattle.mz_scope_names.specs.declared.name_use.NameUse.{NameUse}
use Rattle.mz_scope_names.specs.Sketches.{Sketch}
use Rattle.mz_scope_order.specs.Dependencies.{sketch_at, meant_by, IsUsed, RefersTo}
use Rattle.mz_scope_order.specs.StepsSubjects.{ArePlaces, subject_at, subjects_in}
use Rattle.mz_scope_order.specs.Subjects.{Subject, of_decl, of_function, IsAmong, AreOnce, IsCounted, AreCounted, AreBefore, ComeAfter, types_of, IsTypeSequence}
use Rattle.mz_scope_order.proofs.Sorting.{node_subject, node_subjects}

-- what refers to what, by the places in an order

module _ (decls : List Sketch) (order : List ℕ) (counted : (x : ℕ) → IsIn x order → x < length decls) where
  abbrev pub turned : List Sketch
  turned = map (sketch_at decls) order

  abbrev pub place : ℕ → ℕ
  place k = number_of order k

  pub within : (k : ℕ) → k < length turned → k < length order
  within k l = let m = length-map order (sketch_at decls) in omega (arith, l, m)

  pub there : (k : ℕ) → k < length turned → sketch_at turned k ≡ sketch_at decls (place k)
  there k l = get_or-map (sketch_at decls) order k 0 (sketch_at [] 0) (within k l)

  pub refers : (us : List NameUse) (k : ℕ) → RefersTo us turned k → RefersTo us decls (place k)
  refers us k u = record {
    counted = counted (place k) (in_at order k 0 (within k u.counted));
    used = subst (λ z. IsUsed (meant_by z) us) (there k u.counted) u.used;
  }

  pub from : (d : ℕ) → d < length turned → place d < length decls
  from d l = counted (place d) (in_at order d 0 (within d l))

-- subjects with other numbers for declarations

abbrev renumbered : List ℕ → Subject → Subject
renumbered at (of_decl d) = of_decl (number_of at d)
renumbered at (of_function f) = of_function f

among_renumbered : (at : List ℕ) (x : Subject) (xs : List Subject) → IsAmong x xs → IsAmong (renumbered at x) (map (renumbered at) xs)
among_renumbered at x [] h = h
among_renumbered at x (y ∷ xs) h = ⊎_elim (λ e. inl (ap (renumbered at) e)) (λ t. inr (among_renumbered at x xs t)) h

name_case : (at : List ℕ) (b : Bool) (x : ℕ) → (if b then [] else of_decl (number_of at x) ∷ []) ≡ map (renumbered at) (if b then [] else of_decl x ∷ [])
name_case at true x = refl
name_case at false x = refl

node_case : (at : List ℕ) (b : Bool) (f : ℕ) (xs ys : List Subject) → xs ≡ map (renumbered at) ys → (if b then of_function f ∷ [] else xs) ≡ map (renumbered at) (if b then of_function f ∷ [] else ys)
node_case at true f xs ys e = refl
node_case at false f xs ys e = e

at_is : (functions base : ℕ) (at : List ℕ) (x : ℕ) → subject_at functions base at x ≡ map (renumbered at) (node_subject functions base x)
at_is functions base at x = node_case at (nat_lt x functions) x _ _ (name_case at (nat_lt x base) (x - base))

pub subjects_are : (functions base : ℕ) (at : List ℕ) (xs : List ℕ) → subjects_in functions base at xs ≡ map (renumbered at) (node_subjects functions base xs)
subjects_are functions base at [] = refl
subjects_are functions base at (x ∷ xs) =
    ap (λ z. z ++ subjects_in functions base at xs) (at_is functions base at x)
    ∙ ap (λ z. map (renumbered at) (node_subject functions base x) ++ z) (subjects_are functions base at xs)
    ∙ sym (map-append (renumbered at) (node_subject functions base x) (node_subjects functions base xs))

abbrev number : Subject → ℕ
number (of_decl d) = d
number (of_function f) = f

-- an order of types, where the places in an order of all declarations are their new numbers

module _ (decls functions : List Sketch) (order at : List ℕ) (counted : (x : ℕ) → IsIn x order → x < length decls) (complete : IsComplete (length decls) order) (places : ArePlaces (length decls) order at) where
  abbrev new : List Sketch
  new = turned decls order counted

  turn_counted : (d : ℕ) → d < length decls → number_of at d < length new
  turn_counted d l =
      let p = place_of d order (complete d l) in
      let m = length-map order (sketch_at decls) in
      let e : number_of at d ≡ p.at = ap (number_of at) (sym (p.is 0)) ∙ places.is p.at p.within in
      let w = p.within in
      omega (arith, w, m, e)

  turn_back : (d : ℕ) → d < length decls → number_of order (number_of at d) ≡ d
  turn_back d l =
      let p = place_of d order (complete d l) in
      ap (number_of order) (ap (number_of at) (sym (p.is 0)) ∙ places.is p.at p.within) ∙ p.is 0

  counted_renumbered : (x : Subject) → IsCounted (length decls) (length functions) x → IsCounted (length new) (length functions) (renumbered at x)
  counted_renumbered (of_decl d) l = turn_counted d l
  counted_renumbered (of_function f) l = l

  all_counted : (xs : List Subject) → AreCounted (length decls) (length functions) xs → AreCounted (length new) (length functions) (map (renumbered at) xs)
  all_counted [] c = tt
  all_counted (x ∷ xs) c = (counted_renumbered x c.0, all_counted xs c.1)

  decl_among : (d : ℕ) (xs : List Subject) → d < length new → IsAmong (of_decl (number_of order d)) xs → IsAmong (of_decl d) (map (renumbered at) xs)
  decl_among d xs l h = subst (λ (z : ℕ). IsAmong (of_decl z) (map (renumbered at) xs)) (places.is d (within decls order counted d l)) (among_renumbered at (of_decl (number_of order d)) xs h)

  before_renumbered : (us : List NameUse) (before : List Subject) → AreBefore decls functions us before → AreBefore new functions us (map (renumbered at) before)
  before_renumbered us before b = record {
    decls = λ d u. decl_among d before u.counted (b.decls (number_of order d) (refers decls order counted us d u));
    functions = λ f u. among_renumbered at (of_function f) before (b.functions f u);
  }

  types_same : (x : Subject) → IsCounted (length decls) (length functions) x → types_of decls functions x ≡ types_of new functions (renumbered at x)
  types_same (of_decl d) l = ap (λ (z : Sketch). z.types) (ap (sketch_at decls) (sym (turn_back d l)) ∙ sym (there decls order counted (number_of at d) (turn_counted d l)))
  types_same (of_function f) l = refl

  after_renumbered : (before xs : List Subject) → AreCounted (length decls) (length functions) xs → ComeAfter decls functions (types_of decls functions) before xs → ComeAfter new functions (types_of new functions) (map (renumbered at) before) (map (renumbered at) xs)
  after_renumbered before [] c h = tt
  after_renumbered before (x ∷ xs) c h = (
    subst (λ us. AreBefore new functions us (map (renumbered at) before)) (types_same x c.0) (before_renumbered (types_of decls functions x) before h.0),
    subst (λ z. ComeAfter new functions (types_of new functions) z (map (renumbered at) xs)) (map-append (renumbered at) before (x ∷ [])) (after_renumbered (before ++ x ∷ []) xs c.1 h.1),
  )

  same_before : (x y : Subject) → IsCounted (length decls) (length functions) x → IsCounted (length decls) (length functions) y → renumbered at x ≡ renumbered at y → x ≡ y
  same_before (of_decl d) (of_decl e) l k is = ap (λ (z : ℕ). of_decl z) (sym (turn_back d l) ∙ ap (λ z. number_of order (number z)) is ∙ turn_back e k)
  same_before (of_decl d) (of_function f) l k is = absurd (cc)
  same_before (of_function f) (of_decl d) l k is = absurd (cc)
  same_before (of_function f) (of_function g) l k is = is

  among_before : (x : Subject) (xs : List Subject) → IsCounted (length decls) (length functions) x → AreCounted (length decls) (length functions) xs → IsAmong (renumbered at x) (map (renumbered at) xs) → IsAmong x xs
  among_before x [] l c h = h
  among_before x (y ∷ xs) l c h = ⊎_elim (λ e. inl (same_before x y l c.0 e)) (λ t. inr (among_before x xs l c.1 t)) h

  once_renumbered : (xs : List Subject) → AreCounted (length decls) (length functions) xs → AreOnce xs → AreOnce (map (renumbered at) xs)
  once_renumbered [] c o = tt
  once_renumbered (x ∷ xs) c o = ((λ h. o.0 (among_before x xs c.0 c.1 h)), once_renumbered xs c.1 o.1)

  pub sequence_renumbered : (xs : List Subject) → IsTypeSequence decls functions xs → IsTypeSequence new functions (map (renumbered at) xs)
  sequence_renumbered xs s = record {
    decls = λ d l. decl_among d xs l (s.decls (number_of order d) (from decls order counted d l));
    functions = λ f l. among_renumbered at (of_function f) xs (s.functions f l);
    after = after_renumbered [] xs s.counted s.after;
    once = once_renumbered xs s.counted s.once;
    counted = all_counted xs s.counted;
  }
