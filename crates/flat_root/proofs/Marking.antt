-- Ids that are added, and what is below them.
use Rattle.std.proofs.Common.{◌≡◌, ◌⊎◌, ℕ, zero, suc, ◌+◌, ◌<◌, ◌≤◌, nat_eq, Bool, true, false, ◌||◌, List, [], ◌∷◌, ◌++◌, length, take, Some, slice_get, slice_index_or, inl, inr, refl, sym, ap, subst, ◌∙◌, arith}
use Rattle.std.specs.Prelude.{Result, Ok, Err, OnOk}
use Rattle.std.specs.List.{AllByRecursion}
use Rattle.std.proofs.lemmas.Bool.Decides.{nat_tests}
use Rattle.mz_arena.specs.declared.node.Node.{Node}
use Rattle.mz_arena.specs.declared.node.NodeKind.{NodeKind}
use Rattle.mz_arena.specs.declared.node.NodeKind.TheVariants as kinds
use Rattle.mz_arena.specs.Entries.{AllBelow, Entry, arity, children, is_free}
use Rattle.mz_arena.specs.Arenas.{IsArena}
use Rattle.mz_arena.proofs.Folds.{get-below}
use Rattle.mz_partial.specs.Totals.{IsTotal, is_total}
use Rattle.flat_reif.specs.Needs.{is_needed, HasAlso}
use Rattle.flat_reif.specs.Lists.{IsNode}
use Rattle.flat_reif.specs.Below.{AreNeeded}
use Rattle.flat_reif.proofs.Steps.{same_entry}
use Rattle.flat_root.specs.declared.marks.Children.{Children}
use Rattle.flat_root.specs.Marks.{children_of, first_of, needed_children, IsIn, AreMarked, Covers, AreTotal, AreTotalIds, ClosedFrom, ClosesAt, Closes}

-- ---- ids that are added

own_mark : (k : ℕ) (b : Bool) → (nat_eq k k || b) ≡ true
own_mark k b = let same : nat_eq k k ≡ true = grind (arith, nat_tests) in ap (λ c. c || b) same

old_mark : (a b : Bool) → b ≡ true → (a || b) ≡ true
old_mark true b h = refl
old_mark false b h = h

either_mark : (k i : ℕ) (b : Bool) → (nat_eq k i || b) ≡ true → (b ≡ true) ⊎ (k ≡ i)
either_mark k i b h = by (nat_eq k i) refl h
  where
    by : (a : Bool) → nat_eq k i ≡ a → (a || b) ≡ true → (b ≡ true) ⊎ (k ≡ i)
    by true is h = let same : k ≡ i = grind (arith, nat_tests) in inr same
    by false is h = inl h

pub covers_one : (old new : List Bool) (i : ℕ) → HasAlso old new i → Covers old new (i ∷ [])
covers_one old new i h = record {
  keeps = λ k y. h k ∙ old_mark (nat_eq k i) (is_needed old k) y;
  adds = (h i ∙ own_mark i (is_needed old i), tt);
  only = λ k y. elim (either_mark k i (is_needed old k) (sym (h k) ∙ y)) [ inl o ↦ inl o | inr e ↦ inr (inl e) ];
}

pub covers_none : (old : List Bool) → Covers old old []
covers_none old = record { keeps = λ k y. y; adds = tt; only = λ k y. inl y }

pub all_kept : (old new : List Bool) (is : List ℕ) → ((k : ℕ) → is_needed old k ≡ true → is_needed new k ≡ true) → AreMarked old is → AreMarked new is
all_kept old new [] h m = tt
all_kept old new (i ∷ is) h m = (h i m.0, all_kept old new is h m.1)

-- one, and then others
pub covers_then : (a b c : List Bool) (i : ℕ) (is : List ℕ) → Covers a b (i ∷ []) → Covers b c is → Covers a c (i ∷ is)
covers_then a b c i is f g = record {
  keeps = λ k y. g.keeps k (f.keeps k y);
  adds = (g.keeps i f.adds.0, g.adds);
  only = λ k y. elim (g.only k y) [
    | inl o ↦ elim (f.only k o) [ inl p ↦ inl p | inr m ↦ elim m [ inl e ↦ inr (inl e) | inr z ↦ absurd z ] ]
    | inr m ↦ inr (inr m)
  ];
}

pub covers_node : (old new : List Bool) (n : Node) (c : Children) → c ≡ children_of n.kind → Covers old new (first_of c n.a n.b n.c) → Covers old new (needed_children n)
covers_node old new n c h k = subst (λ d. Covers old new (first_of d n.a n.b n.c)) h k

pub on_ok_on : {X Y : Type 0} (r : Result X Y) (Q P : Type 0) → (Q → P) → OnOk r Q → OnOk r P
on_ok_on (Ok x) Q P f h = f h
on_ok_on (Err e) Q P f h = tt

-- ---- what is below

needed_are : (n : Node) (k : NodeKind) → n.kind ≡ k → is_free k ≡ false → first_of (children_of k) n.a n.b n.c ≡ take (arity k) (n.a ∷ n.b ∷ n.c ∷ [])
needed_are n kinds.Int e h = refl
needed_are n kinds.Bool e h = refl
needed_are n kinds.Var e h = absurd (cc)
needed_are n kinds.Local e h = absurd (cc)
needed_are n kinds.Nil e h = refl
needed_are n kinds.SetConst e h = refl
needed_are n kinds.SetVar e h = absurd (cc)
needed_are n kinds.SetLocal e h = absurd (cc)
needed_are n kinds.Min e h = refl
needed_are n kinds.Max e h = refl
needed_are n kinds.Abs e h = refl
needed_are n kinds.ToInt e h = refl
needed_are n kinds.Not e h = refl
needed_are n kinds.Card e h = refl
needed_are n kinds.If e h = refl
needed_are n _ e h = refl

all_from : {P : ℕ → Type 0} (is : List ℕ) → ((k i : ℕ) → slice_get is k ≡ Some i → P i) → AllByRecursion P is
all_from [] h = tt
all_from (i ∷ is) h = (h 0 i refl, all_from is (λ k j g. h (suc k) j g))

pub total_children : (es : List Entry) (id : ℕ) (e : Entry) → IsTotal es id → slice_get es id ≡ Some e → AreTotalIds es (children e.node)
total_children es id e (is_total _ d is some kids) h = subst (λ (z : Entry). AreTotalIds es (children z.node)) (same_entry es id id d e refl h is) (all_from (children d.node) kids)

none_needed : (n : Node) (k : NodeKind) → is_free k ≡ true → first_of (children_of k) n.a n.b n.c ≡ []
none_needed n kinds.Var h = refl
none_needed n kinds.Local h = refl
none_needed n kinds.SetVar h = refl
none_needed n kinds.SetLocal h = refl
none_needed n _ h = absurd (cc)

none_or_all : (n : Node) (P : ℕ → Type 0) → AllByRecursion P (children n) → AllByRecursion P (needed_children n)
none_or_all n P h = by (is_free n.kind) refl
  where
    by : (b : Bool) → is_free n.kind ≡ b → AllByRecursion P (needed_children n)
    by true e = subst (AllByRecursion P) (sym (none_needed n n.kind e)) tt
    by false e = subst (AllByRecursion P) (sym (needed_are n n.kind refl e)) h

below_all : (m : ℕ) (is : List ℕ) → AllBelow m is → AllByRecursion (λ i. i < m) is
below_all m [] h = tt
below_all m (i ∷ is) h = (h.0, below_all m is h.1)

in_all : (P : ℕ → Type 0) (is : List ℕ) (k : ℕ) → AllByRecursion P is → IsIn k is → P k
in_all P [] k a h = absurd h
in_all P (i ∷ is) k a (inl e) = subst P (sym e) a.0
in_all P (i ∷ is) k a (inr h) = in_all P is k a.1 h

split : (i k : ℕ) → i ≤ k → (k ≡ i) ⊎ (i + 1 ≤ k)
split zero zero h = inl refl
split zero (suc k) h = inr (omega arith)
split (suc i) zero h = absurd (omega (arith, h))
split (suc i) (suc k) h = elim (split i k (omega (arith, h))) [ inl e ↦ inl (ap suc e) | inr l ↦ inr (omega (arith, l)) ]

both_marks : {A : Type 0} (b : Bool) → b ≡ true → b ≡ false → A
both_marks b h k = absurd (cc)

module _ (es : List Entry) (id : ℕ) (n : Node) (arena : IsArena es) (h : IsNode es id n) where
  here_node : (k : ℕ) (e : Entry) → k ≡ id → slice_get es k ≡ Some e → e.node ≡ n
  here_node k e same is = ap (λ (z : Entry). z.node) (same_entry es id k e h.entry same h.is is) ∙ h.node

  needed_below : AllByRecursion (λ i. i < id) (needed_children n)
  needed_below = none_or_all n (λ i. i < id) (subst (λ (m : Node). AllByRecursion (λ i. i < id) (children m)) h.node (below_all id (children h.entry.node) (arena.ordered id h.entry h.is)))

  needed_total : IsTotal es id → AreTotalIds es (needed_children n)
  needed_total t = none_or_all n (IsTotal es) (subst (λ (m : Node). AreTotalIds es (children m)) h.node (total_children es id h.entry t h.is))

  pub closes_marked : (old new : List Bool) → AreTotal es old → ClosedFrom es old (id + 1) → is_needed old id ≡ true → Covers old new (needed_children n) → ClosesAt es old new id
  closes_marked old new total closed here c = record {
    keeps = c.keeps;
    total = λ k y. elim (c.only k y) [ inl o ↦ total k o | inr m ↦ in_all (IsTotal es) (needed_children n) k (needed_total (total id here)) m ];
    closed = λ k e l is y. elim (split id k l) [
      | inl same ↦ subst (λ (m : Node). AreMarked new (needed_children m)) (sym (here_node k e same is)) c.adds
      | inr past ↦ elim (c.only k y) [
        | inl o ↦ all_kept old new (needed_children e.node) c.keeps (closed k e past is o)
        | inr m ↦ (let b : k < id = in_all (λ i. i < id) (needed_children n) k needed_below m in absurd (omega (arith, b, past)))
      ]
    ];
  }

pub closes_unmarked : (es : List Entry) (old : List Bool) (id : ℕ) → AreTotal es old → ClosedFrom es old (id + 1) → is_needed old id ≡ false → ClosesAt es old old id
closes_unmarked es old id total closed none = record {
  keeps = λ k y. y;
  total = total;
  closed = λ k e l is y. elim (split id k l) [
    | inl same ↦ both_marks (is_needed old k) y (ap (is_needed old) same ∙ none)
    | inr past ↦ closed k e past is y
  ];
}

pub closes_none : (es : List Entry) (old : List Bool) → AreTotal es old → ClosesAt es old old (length es)
closes_none es old total = record { keeps = λ k y. y; total = total; closed = λ k e l is y. absurd (omega (arith, l, get-below es k e is)) }

pub closes_then : (es : List Entry) (a b c : List Bool) (here : ℕ) → ClosesAt es a b (here + 1) → ClosesAt es b c here → ClosesAt es a c here
closes_then es a b c here f g = record { keeps = λ k y. g.keeps k (f.keeps k y); total = g.total; closed = g.closed }

pub closes_needed : (es : List Entry) (old new : List Bool) → Closes es old new → AreNeeded es new
closes_needed es old new c id e is y = record {
  total = c.total id y;
  children = λ inner. subst (AreMarked new) (needed_are e.node e.node.kind refl inner) (c.closed id e (omega arith) is y);
}

-- ---- several ids

pub in_left : (k : ℕ) (xs ys : List ℕ) → IsIn k xs → IsIn k (xs ++ ys)
in_left k [] ys h = absurd h
in_left k (x ∷ xs) ys (inl e) = inl e
in_left k (x ∷ xs) ys (inr h) = inr (in_left k xs ys h)

pub in_right : (k : ℕ) (xs ys : List ℕ) → IsIn k ys → IsIn k (xs ++ ys)
in_right k [] ys h = h
in_right k (x ∷ xs) ys h = inr (in_right k xs ys h)

pub all_both : (P : ℕ → Type 0) (xs ys : List ℕ) → AllByRecursion P xs → AllByRecursion P ys → AllByRecursion P (xs ++ ys)
all_both P [] ys a b = b
all_both P (x ∷ xs) ys a b = (a.0, all_both P xs ys a.1 b)

covers_both : (a b c : List Bool) (xs ys : List ℕ) → Covers a b xs → Covers b c ys → Covers a c (xs ++ ys)
covers_both a b c xs ys f g = record {
  keeps = λ k y. g.keeps k (f.keeps k y);
  adds = all_both (λ i. is_needed c i ≡ true) xs ys (all_kept b c xs g.keeps f.adds) g.adds;
  only = λ k y. elim (g.only k y) [
    | inl o ↦ elim (f.only k o) [ inl p ↦ inl p | inr m ↦ inr (in_left k xs ys m) ]
    | inr m ↦ inr (in_right k xs ys m)
  ];
}

pub take_next : (is : List ℕ) (k i : ℕ) → slice_get is k ≡ Some i → take (suc k) is ≡ take k is ++ i ∷ []
take_next [] k i h = absurd (cc)
take_next (j ∷ is) zero i h = let same : j ≡ i = cc in ap (λ m. m ∷ []) same
take_next (j ∷ is) (suc k) i h = ap (λ ms. j ∷ ms) (take_next is k i h)

pub take_whole : (is : List ℕ) (k : ℕ) → length is ≤ k → take k is ≡ is
take_whole [] zero h = refl
take_whole [] (suc k) h = refl
take_whole (i ∷ is) zero h = absurd (omega (arith, h))
take_whole (i ∷ is) (suc k) h = ap (λ ms. i ∷ ms) (take_whole is k (omega (arith, h)))

pub index_there : (is : List ℕ) (k : ℕ) → k < length is → slice_get is k ≡ Some (slice_index_or is k 0)
index_there [] k h = absurd (omega (arith, h))
index_there (i ∷ is) zero h = refl
index_there (i ∷ is) (suc k) h = index_there is k (omega (arith, h))

pub covers_next : (a b c : List Bool) (is : List ℕ) (k i : ℕ) → slice_get is k ≡ Some i → Covers a b (take k is) → Covers b c (i ∷ []) → Covers a c (take (k + 1) is)
covers_next a b c is k i h f g =
    let next : suc k ≡ k + 1 = omega arith in
    subst (λ m. Covers a c (take m is)) next (subst (Covers a c) (sym (take_next is k i h)) (covers_both a b c (take k is) (i ∷ []) f g))

-- from the empty set
pub only_these : (es : List Entry) (new : List Bool) (is : List ℕ) → AreTotalIds es is → Covers [] new is → AreTotal es new
only_these es new is total c k y = elim (c.only k y) [ inl o ↦ absurd (no_mark k o) | inr m ↦ in_all (IsTotal es) is k total m ]
  where
    no_mark : (k : ℕ) → is_needed [] k ≡ true → ⊥
    no_mark k h = cc
