-- Arenas that go on from another, and the node that was made last.
use Rattle.std.proofs.Common.{◌≡◌, ℕ, ◌+◌, ◌<◌, List, [], ◌∷◌, ◌++◌, length, map, take, ◌&&◌, ℤ, pos, Bool, true, false, cond, Option, Some, None, ◌⊎◌, inl, inr, IsSome, slice_get, refl, sym, ap, subst, ◌∙◌, arith, length-append, append-nil}
use Rattle.std.proofs.lemmas.Bool.{cases_lt}
use Rattle.std.specs.Ordering.{int_eq}
use Rattle.std.proofs.lemmas.Int.{ints}
use Rattle.mz_value.specs.Ranges.{Range, AreCanonical}
use Rattle.mz_interval.specs.Ends.{Ends}
use Rattle.mz_operations.specs.Sets.{end_of}
use Rattle.mz_operations.specs.Bounds.{hull_of_set}
use Rattle.mz_operations.specs.Laws.{IsSet}
use Rattle.mz_operations.proofs.SetBounds.{hull_of_set-has}
use Rattle.mz_arena.specs.declared.node.Node.{Node}
use Rattle.mz_arena.specs.declared.node.NodeKind.{NodeKind}
use Rattle.mz_arena.specs.declared.node.NodeKind.TheVariants.{Var, Local, SetConst}
use Rattle.mz_arena.specs.Entries.{Entry, arity, children, AllBelow, at, folded, is_set_const, is_free, is_local}
use Rattle.mz_arena.specs.Terms.{node_term, terms, own_id}
use Rattle.mz_arena.specs.Extents.{Extent, Known, truth, subset, both_truths, marked, variable_extent, kind_extent, node_extent, extents, extent}
use Rattle.mz_arena.specs.Charges.{charge_of, charges}
use Rattle.mz_arena.specs.Numbering.{local_ids_from, local_ids, IsChoice, Numbered}
use Rattle.mz_arena.specs.Arenas.{IsSetConst, has_mark, both_truth_values, HasDomain, Grew, Extends, Made, IsArena}
use Rattle.mz_arena.proofs.Folds.{get-length, get-append, get-last, get-below, length-folded, folded-append, keep, unroll}

pub grew_append : (es fs : List Entry) → Grew es (es ++ fs)
unfolding terms extents
grew_append es fs = record {
  longer = omega (arith, length-append es fs);
  same = λ id h. get-append es fs id h;
  terms = λ v id h. ap (λ xs. at xs id) (folded-append (node_term v) [] es fs) ∙ keep (node_term v) (folded (node_term v) [] es) fs id (omega (arith, length-folded (node_term v) [] es));
  extents = λ id h. ap (λ xs. at xs id) (folded-append node_extent [] es fs) ∙ keep node_extent (folded node_extent [] es) fs id (omega (arith, length-folded node_extent [] es));
}

pub grew_same : (es : List Entry) → Grew es es
grew_same es = record { longer = omega arith; same = λ id h. refl; terms = λ v id h. refl; extents = λ id h. refl }

pub grew_both : {xs ys zs : List Entry} → Grew xs ys → Grew ys zs → Grew xs zs
grew_both f g = record {
  longer = omega (arith, f.longer, g.longer);
  same = λ id h. g.same id (omega (arith, f.longer)) ∙ f.same id h;
  terms = λ v id h. g.terms v id (omega (arith, f.longer)) ∙ f.terms v id h;
  extents = λ id h. g.extents id (omega (arith, f.longer)) ∙ f.extents id h;
}

-- an entry of a longer list is an old one or the last
pub old_or_last : (es : List Entry) (e d : Entry) (id : ℕ) → slice_get (es ++ e ∷ []) id ≡ Some d → ((id < length es) × (slice_get es id ≡ Some d)) ⊎ ((id ≡ length es) × (d ≡ e))
old_or_last es e d id h =
    let below = get-below (es ++ e ∷ []) id d h in
    elim (cases_lt id (length es)) [
      | inl l ↦ inl (l, sym (get-append es (e ∷ []) id l) ∙ h)
      | inr g ↦
          let last : id ≡ length es = omega (arith, length-append es (e ∷ [])) in
          inr (last, same_entry (ap (slice_get (es ++ e ∷ [])) last) h (get-last es e))
    ]
  where
    same_entry : {p q : Option Entry} → p ≡ q → p ≡ Some d → q ≡ Some e → d ≡ e
    same_entry r k l = cc

clash : {A : Type 0} (b : Bool) → b ≡ true → b ≡ false → A
clash b h k = cc

pub extends_push : (es : List Entry) (e : Entry) → is_free e.node.kind ≡ false → Extends es (es ++ e ∷ [])
extends_push es e bound = record {
  grew = grew_append es (e ∷ []);
  frees = λ id d h free. elim (old_or_last es e d id h) [
    | inl o ↦ o.0
    | inr n ↦ clash (is_free e.node.kind) (subst (λ (z : Entry). is_free z.node.kind ≡ true) n.1 free) bound
  ];
}

-- an id at which a node is, with its children before it, means that node here and in each later arena
pub made : (es : List Entry) (e : Entry) (id : ℕ) → slice_get es id ≡ Some e → AllBelow id (children e.node) → Made es e id
unfolding terms extents
made es e id h below = record {
  place = get-below es id e h;
  stands = h;
  above = below;
  means = λ v later g. unroll (node_term v) later id e (g.same id (get-below es id e h) ∙ h) below;
  bounds = λ later g. unroll node_extent later id e (g.same id (get-below es id e h) ∙ h) below;
}

pub made_last : (es : List Entry) (e : Entry) → AllBelow (length es) (children e.node) → Made (es ++ e ∷ []) e (length es)
made_last es e below = made (es ++ e ∷ []) e (length es) (get-last es e) below

-- ---- choices

local_ids_from-push : (k : ℕ) (es : List Entry) (e : Entry) → local_ids_from k (es ++ e ∷ []) ≡ local_ids_from k es ++ cond (is_local e.node.kind) ((k + length es) ∷ []) []
unfolding local_ids_from
local_ids_from-push k [] e = let place : k ≡ k + 0 = omega arith in ap (λ j. cond (is_local e.node.kind) (j ∷ []) []) place
local_ids_from-push k (d ∷ es) e = by (is_local d.node.kind) (local_ids_from-push (k + 1) es e)
  where
    by : (b : Bool) → local_ids_from (k + 1) (es ++ e ∷ []) ≡ local_ids_from (k + 1) es ++ cond (is_local e.node.kind) ((k + 1 + length es) ∷ []) [] → cond b (k ∷ local_ids_from (k + 1) (es ++ e ∷ [])) (local_ids_from (k + 1) (es ++ e ∷ [])) ≡ cond b (k ∷ local_ids_from (k + 1) es) (local_ids_from (k + 1) es) ++ cond (is_local e.node.kind) ((k + length (d ∷ es)) ∷ []) []
    by true h = let place : k + 1 + length es ≡ k + length (d ∷ es) = omega arith in ap (λ is. k ∷ is) (h ∙ ap (λ j. local_ids_from (k + 1) es ++ cond (is_local e.node.kind) (j ∷ []) []) place)
    by false h = let place : k + 1 + length es ≡ k + length (d ∷ es) = omega arith in h ∙ ap (λ j. local_ids_from (k + 1) es ++ cond (is_local e.node.kind) (j ∷ []) []) place

pub local_ids-push : (es : List Entry) (e : Entry) → local_ids (es ++ e ∷ []) ≡ local_ids es ++ cond (is_local e.node.kind) (length es ∷ []) []
unfolding local_ids
local_ids-push es e = let place : 0 + length es ≡ length es = omega arith in local_ids_from-push 0 es e ∙ ap (λ j. local_ids_from 0 es ++ cond (is_local e.node.kind) (j ∷ []) []) place

choice_later : (es : List Entry) (e : Entry) (k id : ℕ) → IsChoice es k id → IsChoice (es ++ e ∷ []) k id
choice_later es e k id c = record { there = c.there; stands = get-append es (e ∷ []) id (get-below es id c.there c.stands) ∙ c.stands; local = c.local; number = c.number }

last_choice : (es : List Entry) (e : Entry) (b : Bool) (k id : ℕ) → is_local e.node.kind ≡ b → (b ≡ true → e.node.b ≡ length (local_ids es)) → ((k id : ℕ) → slice_get (local_ids es) k ≡ Some id → IsChoice es k id) → slice_get (local_ids es ++ cond b (length es ∷ []) []) k ≡ Some id → IsChoice (es ++ e ∷ []) k id
last_choice es e false k id l next there h = choice_later es e k id (there k id (subst (λ is. slice_get is k ≡ Some id) (append-nil (local_ids es)) h))
last_choice es e true k id l next there h = elim (cases_lt k (length (local_ids es))) [
  | inl o ↦ choice_later es e k id (there k id (sym (get-append (local_ids es) (length es ∷ []) k o) ∙ h))
  | inr g ↦
      let below = get-below (local_ids es ++ length es ∷ []) k id h in
      let last : k ≡ length (local_ids es) = omega (arith, length-append (local_ids es) (length es ∷ [])) in
      let place : length es ≡ id = some_place (ap (slice_get (local_ids es ++ length es ∷ [])) (sym last) ∙ h) in
      record { there = e; stands = ap (slice_get (es ++ e ∷ [])) (sym place) ∙ get-last es e; local = l; number = next refl ∙ sym last }
]
  where
    some_place : slice_get (local_ids es ++ length es ∷ []) (length (local_ids es)) ≡ Some id → length es ≡ id
    some_place p = let q = get-last (local_ids es) (length es) in cc

numbered_push : (es : List Entry) (e : Entry) → Numbered es → (is_local e.node.kind ≡ true → e.node.b ≡ length (local_ids es)) → Numbered (es ++ e ∷ [])
numbered_push es e n next = record {
  there = λ k id h. last_choice es e (is_local e.node.kind) k id refl next n.there (subst (λ is. slice_get is k ≡ Some id) (local_ids-push es e) h);
  all = λ id d h l. elim (old_or_last es e d id h) [
    | inl o ↦
        let place = n.all id d o.1 l in
        ap (λ is. slice_get is d.node.b) (local_ids-push es e) ∙ get-append (local_ids es) (cond (is_local e.node.kind) (length es ∷ []) []) d.node.b (get-below (local_ids es) d.node.b id place) ∙ place
    | inr m ↦
        let local : is_local e.node.kind ≡ true = subst (λ (z : Entry). is_local z.node.kind ≡ true) m.1 l in
        let number : d.node.b ≡ length (local_ids es) = ap (λ (z : Entry). z.node.b) m.1 ∙ next local in
        ap (λ is. slice_get is d.node.b) (local_ids-push es e ∙ ap (λ b. local_ids es ++ cond b (length es ∷ []) []) local) ∙ ap (slice_get (local_ids es ++ length es ∷ [])) number ∙ get-last (local_ids es) (length es) ∙ ap (λ j. Some j) (sym m.0)
  ];
}

numbered_empty : Numbered []
unfolding local_ids local_ids_from
numbered_empty = record { there = λ k id h. cc; all = λ id e h l. cc }

-- ---- what holds of each arena

abbrev absent : (A : Type 0) → Option A
absent A = None

some_same : {A : Type 0} {p q : Option A} → p ≡ q → IsSome q → IsSome p
some_same {A} e h = subst (λ (o : Option A). IsSome o) (sym e) h

-- a map over what is kept
pub extents_kept : (old new : List Entry) (is : List ℕ) → Grew old new → AllBelow (length old) is → map (extent new) is ≡ map (extent old) is
extents_kept old new [] g all = refl
extents_kept old new (i ∷ is) g all = let head = g.extents i all.0 in let tail = extents_kept old new is g all.1 in cc

pub extent_last : (es : List Entry) (e : Entry) → AllBelow (length es) (children e.node) → extent (es ++ e ∷ []) (length es) ≡ node_extent e (map (extent es) (children e.node))
extent_last es e below =
    let new = es ++ e ∷ [] in
    (made_last es e below).bounds new (grew_same new) ∙ ap (node_extent e) (extents_kept es new (children e.node) (grew_append es (e ∷ [])) below)

-- ---- domains

abbrev const_later : (es : List Entry) (e : Entry) (id : ℕ) → IsSetConst es id → IsSetConst (es ++ e ∷ []) id
const_later es e id c = record { there = c.there; stands = get-append es (e ∷ []) id (get-below es id c.there c.stands) ∙ c.stands; is = c.is }

domain_later : (es : List Entry) (e : Entry) (n : Node) → HasDomain es n → HasDomain (es ++ e ∷ []) n
domain_later es e n h = record { const = const_later es e n.a h.const; both = h.both }

-- the bounds of a SetConst are its set
const_kind : (e : Entry) (k : NodeKind) (xs : List Known) → is_set_const k ≡ true → kind_extent e k xs ≡ Some (subset e.set)
const_kind e SetConst xs h = refl
const_kind e _ xs h = cc

pub const_extent : (es : List Entry) (id : ℕ) → IsArena es → (c : IsSetConst es id) → extent es id ≡ Some (subset c.there.set)
unfolding extents
const_extent es id a c = unroll node_extent es id c.there c.stands (a.ordered id c.there c.stands) ∙ const_kind c.there c.there.node.kind _ c.is

variable_kind : (e : Entry) (f : ℕ → Known) (k : NodeKind) → has_mark k ≡ true → kind_extent e k (map f (take (arity k) (e.node.a ∷ e.node.b ∷ e.node.c ∷ []))) ≡ variable_extent e.node.c (f e.node.a)
variable_kind e f Var h = refl
variable_kind e f Local h = refl
variable_kind e f _ h = cc

some_both : (e : Ends) → IsSome (both_truths e) → (e.0 ≡ pos 0) × (e.1 ≡ pos 1)
some_both e h = by (int_eq e.0 (pos 0)) (int_eq e.1 (pos 1)) refl refl h
  where
    by : (s t : Bool) → int_eq e.0 (pos 0) ≡ s → int_eq e.1 (pos 1) ≡ t → IsSome (cond (s && t) (Some (truth e)) (absent Extent)) → (e.0 ≡ pos 0) × (e.1 ≡ pos 1)
    by true true p q k = (grind (arith, ints), grind (arith, ints))
    by true false p q k = cc
    by false t p q k = cc

abbrev range : ℤ → ℤ → Range
range a b = (a, b)

-- the set from 0 to 1 is {0, 1}
both_is : (u : List Range) → AreCanonical u → (hull_of_set u).0 ≡ pos 0 → (hull_of_set u).1 ≡ pos 1 → u ≡ both_truth_values
unfolding end_of
both_is [] c low high = cc
both_is (r ∷ []) c low high = ap (λ a. range a r.1 ∷ []) low ∙ ap (λ b. range (pos 0) b ∷ []) high
both_is (r ∷ s ∷ ss) c low high =
    let inside = hull_of_set-has (r ∷ s ∷ ss) s.0 c (inr (inl (omega (arith, ints), c.2.0))) in
    absurd (omega (arith, ints, inside.to, low, high, c.0, c.1))

mark_one : (m : ℕ) (u : List Range) → m ≡ 1 → IsSome (variable_extent m (Some (subset u))) → IsSome (both_truths (hull_of_set u))
unfolding variable_extent
mark_one m u p h = subst (λ k. IsSome (marked k (hull_of_set u))) p h

-- the domain of a node that has bounds
pub has_domain : (es : List Entry) (e : Entry) → IsArena es → IsSome (node_extent e (map (extent es) (children e.node))) → IsSetConst es e.node.a → HasDomain es e.node
has_domain es e a some c = record {
  const = c;
  both = λ m one.
      let bounded = subst (λ (x : Known). IsSome x) (variable_kind e (extent es) e.node.kind m ∙ ap (variable_extent e.node.c) (const_extent es e.node.a a c)) some in
      let ends = some_both (hull_of_set c.there.set) (mark_one e.node.c c.there.set one bounded) in
      both_is c.there.set (a.canonical e.node.a c.there c.stands c.is).0 ends.0 ends.1;
}

pub arena_push : (es : List Entry) (e : Entry) → IsArena es → AllBelow (length es) (children e.node) → IsSome (node_extent e (map (extent es) (children e.node))) → (is_free e.node.kind ≡ true → own_id e.node ≡ length es) → (is_local e.node.kind ≡ true → e.node.b ≡ length (local_ids es)) → (is_free e.node.kind ≡ true → IsSetConst es e.node.a) → (is_set_const e.node.kind ≡ true → IsSet e.set) → IsArena (es ++ e ∷ [])
arena_push es e a below some free next domain canonical =
    let new = es ++ e ∷ [] in
    let g = grew_append es (e ∷ []) in
    record {
      ordered = λ id d h. elim (old_or_last es e d id h) [
        | inl o ↦ a.ordered id d o.1
        | inr n ↦ subst (λ (z : Entry). AllBelow id (children z.node)) (sym n.1) (subst (λ j. AllBelow j (children e.node)) (sym n.0) below)
      ];
      bounded = λ id d h. elim (old_or_last es e d id h) [
        | inl o ↦ some_same (g.extents id o.0) (a.bounded id d o.1)
        | inr n ↦ some_same (ap (extent new) n.0 ∙ extent_last es e below) some
      ];
      own = λ id d h f. elim (old_or_last es e d id h) [
        | inl o ↦ a.own id d o.1 f
        | inr n ↦ ap (λ (z : Entry). own_id z.node) n.1 ∙ free (subst (λ (z : Entry). is_free z.node.kind ≡ true) n.1 f) ∙ sym n.0
      ];
      numbered = numbered_push es e a.numbered next;
      domains = λ id d h f. elim (old_or_last es e d id h) [
        | inl o ↦ domain_later es e d.node (a.domains id d o.1 f)
        | inr n ↦ domain_later es e d.node (subst (λ (z : Entry). HasDomain es z.node) (sym n.1) (has_domain es e a some (domain (subst (λ (z : Entry). is_free z.node.kind ≡ true) n.1 f))))
      ];
      canonical = λ id d h c. elim (old_or_last es e d id h) [
        | inl o ↦ a.canonical id d o.1 c
        | inr n ↦ subst (λ (z : Entry). IsSet z.set) (sym n.1) (canonical (subst (λ (z : Entry). is_set_const z.node.kind ≡ true) n.1 c))
      ];
    }

-- an id of the arena has bounds
pub extent_there : (es : List Entry) (id : ℕ) → IsArena es → id < length es → IsSome (extent es id)
extent_there es id a l = by (slice_get es id) refl
  where
    by : (o : Option Entry) → slice_get es id ≡ o → IsSome (extent es id)
    by None e = let past = get-length es id e in absurd (omega arith)
    by (Some d) e = a.bounded id d e

pub arena_empty : IsArena []
arena_empty = record { ordered = λ id e h. cc; bounded = λ id e h. cc; own = λ id e h f. cc; numbered = numbered_empty; domains = λ id e h f. cc; canonical = λ id e h c. cc }

-- ---- counts

pub charges-push : (es : List Entry) (e : Entry) → charges (es ++ e ∷ []) ≡ charges es + charge_of e.node.kind
unfolding charges
charges-push [] e = omega arith
charges-push (d ∷ es) e = omega (arith, charges-push es e)
