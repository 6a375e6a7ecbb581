-- Conjunctions that are taken apart, each once.
use Rattle.std.proofs.Common.{◌≡◌, ◌⊎◌, ℕ, zero, suc, ◌+◌, ◌<◌, ◌≤◌, nat_eq, Bool, true, false, ◌||◌, ◌&&◌, List, [], ◌∷◌, ◌++◌, length, map, take, drop, Some, IsSome, slice_get, slice_index_or, length-append, inl, inr, refl, sym, ap, subst, ◌∙◌, arith}
use Rattle.std.specs.List.{AllByRecursion}
use Rattle.std.proofs.lemmas.Bool.{and_parts, and_from}
use Rattle.std.proofs.lemmas.Bool.Decides.{nat_tests}
use Rattle.mz_arena.specs.declared.node.Node.{Node}
use Rattle.mz_arena.specs.declared.node.NodeKind.{NodeKind}
use Rattle.mz_arena.specs.declared.node.NodeKind.TheVariants as kinds
use Rattle.mz_arena.specs.Entries.{AllBelow, Entry, arity, children}
use Rattle.mz_arena.specs.Values as terms
use Rattle.mz_arena.specs.Values.{Term, bit, is_true, and_term}
use Rattle.mz_arena.specs.Terms as the_terms
use Rattle.mz_arena.specs.Terms.{term, node_term, kind_term}
use Rattle.mz_arena.specs.Extents.{Known, as_truth, extent, extents, node_extent, kind_extent, connective_extent, open_truth}
use Rattle.mz_arena.specs.Arenas.{IsArena}
use Rattle.mz_arena.proofs.Folds.{unroll}
use Rattle.flat_reif_rows.proofs.Sorts.{both_there}
use Rattle.flat_reif.specs.Lists.{IsNode}
use Rattle.mz_partial.specs.Totals.{IsTotal}
use Rattle.flat_root.specs.Keeps.{AllTrue}
use Rattle.flat_root.specs.Marks.{IsIn}
use Rattle.flat_root.specs.Totals.{IsRootPart, AreRootParts}
use Rattle.flat_root.specs.Parts.{is_and, AreApart, AreSplit, HasOneMore, IsKnown, IsLeaf, IsParted, SplitSoFar, Visits, left_of, unseen, turned}
use Rattle.flat_root.proofs.Marking.{all_both, total_children, in_left, in_right}
use Rattle.flat_root.proofs.Totaling.{all_first, all_second, root_of, true_both, true_first, true_second}

-- ---- a conjunction

and_kind : (k : NodeKind) → is_and k ≡ true → k ≡ kinds.And
and_kind kinds.And h = refl
and_kind _ h = absurd (cc)

bit_is : (b : Bool) → is_true (bit b) ≡ b
bit_is true = refl
bit_is false = refl

and_is : (x y : Term) → is_true (and_term x y) ≡ (is_true x && is_true y)
unfolding and_term
and_is x y = bit_is (is_true x && is_true y)

of_connective : (x y : Known) → IsSome (connective_extent x y) → IsSome (as_truth x) × IsSome (as_truth y)
unfolding connective_extent
of_connective x y h = both_there (as_truth x) (as_truth y) (λ e f. open_truth) h

module _ (es : List Entry) (arena : IsArena es) (id : ℕ) (e : Entry) (is : slice_get es id ≡ Some e) (kind : is_and e.node.kind ≡ true) where
  two : children e.node ≡ e.node.a ∷ e.node.b ∷ []
  two = ap (λ k. take (arity k) (e.node.a ∷ e.node.b ∷ e.node.c ∷ [])) (and_kind e.node.kind kind)

  and_term_is : (v : terms.Values) → term v es id ≡ and_term (term v es e.node.a) (term v es e.node.b)
  unfolding the_terms.terms
  and_term_is v =
      unroll (node_term v) es id e is (arena.ordered id e is)
      ∙ ap (λ k. kind_term v e k (map (term v es) (take (arity k) (e.node.a ∷ e.node.b ∷ e.node.c ∷ [])))) (and_kind e.node.kind kind)

  and_bounds : extent es id ≡ connective_extent (extent es e.node.a) (extent es e.node.b)
  unfolding extents
  and_bounds =
      unroll node_extent es id e is (arena.ordered id e is)
      ∙ ap (λ k. kind_extent e k (map (extent es) (take (arity k) (e.node.a ∷ e.node.b ∷ e.node.c ∷ [])))) (and_kind e.node.kind kind)

  true_both_parts : (v : terms.Values) → is_true (term v es e.node.a) ≡ true → is_true (term v es e.node.b) ≡ true → is_true (term v es id) ≡ true
  true_both_parts v h k = ap is_true (and_term_is v) ∙ and_is (term v es e.node.a) (term v es e.node.b) ∙ and_from (is_true (term v es e.node.a)) (is_true (term v es e.node.b)) h k

  true_parts : (v : terms.Values) → is_true (term v es id) ≡ true → (is_true (term v es e.node.a) ≡ true) × (is_true (term v es e.node.b) ≡ true)
  true_parts v h = and_parts (is_true (term v es e.node.a)) (is_true (term v es e.node.b)) (sym (ap is_true (and_term_is v) ∙ and_is (term v es e.node.a) (term v es e.node.b)) ∙ h)

  truths : IsSome (as_truth (extent es e.node.a)) × IsSome (as_truth (extent es e.node.b))
  truths = of_connective (extent es e.node.a) (extent es e.node.b) (subst (λ (x : Known). IsSome x) and_bounds (arena.bounded id e is))

  part_roots : IsRootPart es id → IsRootPart es e.node.a × IsRootPart es e.node.b
  part_roots r =
      let kids = subst (AllByRecursion (IsTotal es)) two (total_children es id e r.total is) in
      (record { root = root_of es e.node.a truths.0; total = kids.0 }, record { root = root_of es e.node.b truths.1; total = kids.1.0 })

  parts_below : (e.node.a < id) × (e.node.b < id)
  parts_below = let b = subst (AllBelow id) two (arena.ordered id e is) in (b.0, b.1.0)

-- ---- what is known

in_either : (k : ℕ) (xs ys : List ℕ) → IsIn k (xs ++ ys) → IsIn k xs ⊎ IsIn k ys
in_either k [] ys h = inr h
in_either k (x ∷ xs) ys (inl e) = inl (inl e)
in_either k (x ∷ xs) ys (inr h) = elim (in_either k xs ys h) [ inl a ↦ inl (inr a) | inr b ↦ inr b ]

only_in : (k i : ℕ) → IsIn k (i ∷ []) → k ≡ i
only_in k i (inl e) = e
only_in k i (inr h) = absurd h

same_here : (d e : Entry) → Some d ≡ Some e → d ≡ e
same_here d e h = cc

leaf_of : (es : List Entry) (id : ℕ) (n : Node) → IsNode es id n → is_and n.kind ≡ false → IsLeaf es id
leaf_of es id n h kind e is = ap (λ (d : Entry). is_and d.node.kind) (same_here e h.entry (sym is ∙ h.is)) ∙ ap (λ (m : Node). is_and m.kind) h.node ∙ kind

-- an id more, which is none of them
apart_more : (is : List ℕ) (k : ℕ) → AreApart is → (IsIn k is → ⊥) → AreApart (is ++ k ∷ [])
apart_more [] k a none = ((λ h. h), tt)
apart_more (i ∷ is) k a none = (
  (λ h. elim (in_either i is (k ∷ []) h) [ inl old ↦ a.0 old | inr new ↦ none (inl (sym (only_in i k new))) ]),
  apart_more is k a.1 (λ h. none (inr h)),
)

parted_moved : (es : List Entry) (s t : List ℕ) (a b : ℕ → Bool) (k : ℕ) → ((j : ℕ) → IsKnown s a j → IsKnown t b j) → IsParted es s a k → IsParted es t b k
parted_moved es s t a b k f p = record { entry = p.entry; is = p.is; kind = p.kind; first = f p.entry.node.a p.first; second = f p.entry.node.b p.second }

own_mark : (k : ℕ) (b : Bool) → (nat_eq k k || b) ≡ true
own_mark k b = let same : nat_eq k k ≡ true = grind (arith, nat_tests) in ap (λ c. c || b) same

old_mark : (a b : Bool) → b ≡ true → (a || b) ≡ true
old_mark true b h = refl
old_mark false b h = h

either_mark : (k i : ℕ) (b : Bool) → (nat_eq k i || b) ≡ true → (b ≡ true) ⊎ (k ≡ i)
either_mark k i b h = by (nat_eq k i) refl h
  where
    by : (a : Bool) → nat_eq k i ≡ a → (a || b) ≡ true → (b ≡ true) ⊎ (k ≡ i)
    by true is h = let same : k ≡ i = grind (arith, nat_tests) in inr same
    by false is h = inl h

module _ (es : List Entry) (ids rest : List ℕ) (id : ℕ) (seen : ℕ → Bool) (parts : List ℕ) (f : SplitSoFar es ids (rest ++ id ∷ []) seen parts) where
  pub here : IsRootPart es id
  here = (all_second (IsRootPart es) rest (id ∷ []) f.waiting).0

  waiting_rest : AreRootParts es rest
  waiting_rest = all_first (IsRootPart es) rest (id ∷ []) f.waiting

  -- it was looked at before
  pub split_seen : seen id ≡ true → SplitSoFar es ids rest seen parts
  split_seen was =
      let moved : (j : ℕ) → IsKnown (rest ++ id ∷ []) seen j → IsKnown rest seen j = λ j k. elim k [
        | inl h ↦ elim (in_either j rest (id ∷ []) h) [ inl a ↦ inl a | inr b ↦ inr (ap seen (only_in j id b) ∙ was) ]
        | inr s ↦ inr s
      ] in
      record {
        waiting = waiting_rest;
        each = f.each;
        once = f.once;
        leaves = f.leaves;
        met = f.met;
        to = λ v y. (let t = f.to v y in (true_first es rest (id ∷ []) v t.0, t.1));
        known = λ k h. moved k (f.known k h);
        handled = λ k h. elim (f.handled k h) [ inl a ↦ inl a | inr p ↦ inr (parted_moved es (rest ++ id ∷ []) rest seen seen k moved p) ];
      }

  module _ (new : ℕ → Bool) (also : HasOneMore seen new id) where
    marked : new id ≡ true
    marked = also id ∙ own_mark id (seen id)

    kept : (j : ℕ) → seen j ≡ true → new j ≡ true
    kept j h = also j ∙ old_mark (nat_eq j id) (seen j) h

    was_or_is : (j : ℕ) → new j ≡ true → (seen j ≡ true) ⊎ (j ≡ id)
    was_or_is j h = either_mark j id (seen j) (sym (also j) ∙ h)

    moved_to : (stack : List ℕ) → ((j : ℕ) → IsIn j rest → IsIn j stack) → (j : ℕ) → IsKnown (rest ++ id ∷ []) seen j → IsKnown stack new j
    moved_to stack g j (inl h) = elim (in_either j rest (id ∷ []) h) [ inl a ↦ inl (g j a) | inr b ↦ inr (ap new (only_in j id b) ∙ marked) ]
    moved_to stack g j (inr s) = inr (kept j s)

    -- it is no conjunction
    pub split_leaf : seen id ≡ false → IsLeaf es id → SplitSoFar es ids rest new (parts ++ id ∷ [])
    split_leaf un leaf =
        let moved = moved_to rest (λ j h. h) in
        record {
          waiting = waiting_rest;
          each = all_both (IsRootPart es) parts (id ∷ []) f.each (here, tt);
          once = apart_more parts id f.once (λ h. (let was = f.met id h in absurd (cc)));
          leaves = all_both (IsLeaf es) parts (id ∷ []) f.leaves (leaf, tt);
          met = λ k h. elim (in_either k parts (id ∷ []) h) [ inl old ↦ kept k (f.met k old) | inr own ↦ ap new (only_in k id own) ∙ marked ];
          to = λ v y. (let t = f.to v y in (true_first es rest (id ∷ []) v t.0, true_both es parts (id ∷ []) v t.1 (true_second es rest (id ∷ []) v t.0)));
          known = λ k h. moved k (f.known k h);
          handled = λ k h. elim (was_or_is k h) [
            | inl was ↦ elim (f.handled k was) [ inl a ↦ inl (in_left k parts (id ∷ []) a) | inr p ↦ inr (parted_moved es (rest ++ id ∷ []) rest seen new k moved p) ]
            | inr same ↦ inl (in_right k parts (id ∷ []) (inl same))
          ];
        }

    -- it is one
    pub split_and : IsArena es → (n : Node) → IsNode es id n → is_and n.kind ≡ true → SplitSoFar es ids (rest ++ n.b ∷ n.a ∷ []) new parts
    split_and arena n h kind =
        let e : Entry = h.entry in
        let and : is_and e.node.kind ≡ true = ap is_and (ap (λ (m : Node). m.kind) h.node) ∙ kind in
        let goal : (m : Node) → e.node ≡ m → SplitSoFar es ids (rest ++ m.b ∷ m.a ∷ []) new parts = λ m same. subst (λ (z : Node). SplitSoFar es ids (rest ++ z.b ∷ z.a ∷ []) new parts) same (split_entry arena e h.is and) in
        goal n h.node
      where
        split_entry : IsArena es → (e : Entry) → slice_get es id ≡ Some e → is_and e.node.kind ≡ true → SplitSoFar es ids (rest ++ e.node.b ∷ e.node.a ∷ []) new parts
        split_entry arena e is and =
            let stack : List ℕ = rest ++ e.node.b ∷ e.node.a ∷ [] in
            let moved = moved_to stack (λ j g. in_left j rest (e.node.b ∷ e.node.a ∷ []) g) in
            let r = part_roots es arena id e is and here in
            record {
              waiting = all_both (IsRootPart es) rest (e.node.b ∷ e.node.a ∷ []) waiting_rest (r.1, (r.0, tt));
              each = f.each;
              once = f.once;
              leaves = f.leaves;
              met = λ k h. kept k (f.met k h);
              to = λ v y.
                  let t = f.to v y in
                  let p = true_parts es arena id e is and v (true_second es rest (id ∷ []) v t.0).0 in
                  (true_both es rest (e.node.b ∷ e.node.a ∷ []) v (true_first es rest (id ∷ []) v t.0) (p.1, (p.0, tt)), t.1);
              known = λ k h. moved k (f.known k h);
              handled = λ k h. elim (was_or_is k h) [
                | inl was ↦ elim (f.handled k was) [ inl a ↦ inl a | inr p ↦ inr (parted_moved es (rest ++ id ∷ []) stack seen new k moved p) ]
                | inr same ↦ inr (record {
                  entry = e;
                  is = ap (slice_get es) same ∙ is;
                  kind = and;
                  first = inl (in_right e.node.a rest (e.node.b ∷ e.node.a ∷ []) (inr (inl refl)));
                  second = inl (in_right e.node.b rest (e.node.b ∷ e.node.a ∷ []) (inl refl));
                })
              ];
            }

-- ---- at the end

none_known : (seen : ℕ → Bool) (k : ℕ) → IsKnown [] seen k → seen k ≡ true
none_known seen k (inl h) = absurd h
none_known seen k (inr h) = h

in_true : (es : List Entry) (is : List ℕ) (k : ℕ) (v : terms.Values) → AllTrue es is v → IsIn k is → is_true (term v es k) ≡ true
in_true es [] k v a h = absurd h
in_true es (i ∷ is) k v a (inl e) = ap (λ j. is_true (term v es j)) e ∙ a.0
in_true es (i ∷ is) k v a (inr h) = in_true es is k v a.1 h

true_in : (es : List Entry) (is : List ℕ) (v : terms.Values) → ((k : ℕ) → IsIn k is → is_true (term v es k) ≡ true) → AllTrue es is v
true_in es [] v f = tt
true_in es (i ∷ is) v f = (f i (inl refl), true_in es is v (λ k h. f k (inr h)))

module _ (es : List Entry) (arena : IsArena es) (ids : List ℕ) (seen : ℕ → Bool) (parts : List ℕ) (f : SplitSoFar es ids [] seen parts) where
  seen_true : (v : terms.Values) → AllTrue es parts v → (n k : ℕ) → k < n → seen k ≡ true → is_true (term v es k) ≡ true
  seen_true v y zero k l h = absurd (omega (arith, l))
  seen_true v y (suc n) k l h = elim (f.handled k h) [
    | inl a ↦ in_true es parts k v y a
    | inr p ↦
        (let b = parts_below es arena k p.entry p.is p.kind in
        true_both_parts es arena k p.entry p.is p.kind v (seen_true v y n p.entry.node.a (omega (arith, l, b.0)) (none_known seen p.entry.node.a p.first)) (seen_true v y n p.entry.node.b (omega (arith, l, b.1)) (none_known seen p.entry.node.b p.second)))
  ]

  pub split_all : AreSplit es ids parts
  split_all = record {
    each = f.each;
    once = f.once;
    leaves = f.leaves;
    to = λ v y. (f.to v y).1;
    from = λ v y. true_in es ids v (λ k h. seen_true v y (suc k) k (omega arith) (none_known seen k (f.known k h)));
  }

pub split_none : (es : List Entry) (ids stack : List ℕ) (seen : ℕ → Bool) → AreRootParts es stack → ((v : terms.Values) → AllTrue es ids v → AllTrue es stack v) → ((k : ℕ) → IsIn k ids → IsIn k stack) → ((k : ℕ) → seen k ≡ false) → SplitSoFar es ids stack seen []
split_none es ids stack seen r t i none = record {
  waiting = r;
  each = tt;
  once = tt;
  leaves = tt;
  met = λ k h. absurd h;
  to = λ v y. (t v y, tt);
  known = λ k h. inl (i k h);
  handled = λ k h. (let un = none k in absurd (cc));
}

-- ---- it ends

marks_at_most : (a b : Bool) (x y : ℕ) → y ≤ x → (a ≡ true → b ≡ true) → left_of b + y ≤ left_of a + x
marks_at_most true true x y l f = omega (arith, l)
marks_at_most true false x y l f = let no : false ≡ true = f refl in absurd (cc)
marks_at_most false true x y l f = omega (arith, l)
marks_at_most false false x y l f = omega (arith, l)

marks_less : (a b : Bool) (x y : ℕ) → y + 1 ≤ x → (a ≡ true → b ≡ true) → left_of b + y + 1 ≤ left_of a + x
marks_less true true x y l f = omega (arith, l)
marks_less true false x y l f = let no : false ≡ true = f refl in absurd (cc)
marks_less false true x y l f = omega (arith, l)
marks_less false false x y l f = omega (arith, l)

marks_here : (a b : Bool) (x y : ℕ) → y ≤ x → a ≡ false → b ≡ true → left_of b + y + 1 ≤ left_of a + x
marks_here true b x y l f t = absurd (cc)
marks_here false false x y l f t = absurd (cc)
marks_here false true x y l f t = omega (arith, l)

last : (i n : ℕ) → i < suc n → (i < n) ⊎ (i ≡ n)
last zero zero h = inr refl
last zero (suc n) h = inl (omega arith)
last (suc i) zero h = absurd (omega (arith, h))
last (suc i) (suc n) h = elim (last i n (omega (arith, h))) [ inl l ↦ inl (omega (arith, l)) | inr e ↦ inr (ap suc e) ]

module _ (seen new : ℕ → Bool) (id : ℕ) (h : HasOneMore seen new id) where
  stays : (n : ℕ) → seen n ≡ true → new n ≡ true
  stays n y = h n ∙ old_mark (nat_eq n id) (seen n) y

  fewer_unseen : (n : ℕ) → unseen n new ≤ unseen n seen
  fewer_unseen zero = omega arith
  fewer_unseen (suc n) = marks_at_most (seen n) (new n) (unseen n seen) (unseen n new) (fewer_unseen n) (stays n)

  one_seen : seen id ≡ false → (n : ℕ) → id < n → unseen n new + 1 ≤ unseen n seen
  one_seen un zero l = absurd (omega (arith, l))
  one_seen un (suc n) l = elim (last id n l) [
    | inl below ↦ marks_less (seen n) (new n) (unseen n seen) (unseen n new) (one_seen un n below) (stays n)
    | inr same ↦ marks_here (seen n) (new n) (unseen n seen) (unseen n new) (fewer_unseen n) (ap seen (sym same) ∙ un) (ap new (sym same) ∙ h id ∙ own_mark id (seen id))
  ]

module _ (es : List Entry) (arena : IsArena es) (id : ℕ) (rest : List ℕ) (seen : ℕ → Bool) (parts : List ℕ) where
  longer : length (rest ++ id ∷ []) ≡ length rest + 1
  longer = length-append rest (id ∷ [])

  pub visited_seen : seen id ≡ true → Visits es id rest rest seen seen parts parts
  visited_seen was = record { so_far = λ ids f. split_seen es ids rest id seen parts f was; less = omega (arith, longer) }

  module _ (place : id < length es) (un : seen id ≡ false) (new : ℕ → Bool) (also : HasOneMore seen new id) where
    fewer : unseen (length es) new + 1 ≤ unseen (length es) seen
    fewer = one_seen seen new id also un (length es) place

    pub visited_leaf : (n : Node) → IsNode es id n → is_and n.kind ≡ false → (more : List ℕ) → more ≡ parts ++ id ∷ [] → Visits es id rest rest seen new parts more
    visited_leaf n h kind more items = record {
      so_far = λ ids f. subst (SplitSoFar es ids rest new) (sym items) (split_leaf es ids rest id seen parts f new also un (leaf_of es id n h kind));
      less = omega (arith, longer, fewer);
    }

    pub visited_and : (n : Node) → IsNode es id n → is_and n.kind ≡ true → (stack : List ℕ) → stack ≡ rest ++ n.b ∷ n.a ∷ [] → Visits es id rest stack seen new parts parts
    visited_and n h kind stack items =
        let two : length (rest ++ n.b ∷ n.a ∷ []) ≡ length rest + 2 = length-append rest (n.b ∷ n.a ∷ []) in
        let long : length stack ≡ length rest + 2 = ap length items ∙ two in
        record {
          so_far = λ ids f. subst (λ is. SplitSoFar es ids is new parts) (sym items) (split_and es ids rest id seen parts f new also arena n h kind);
          less = omega (arith, longer, long, fewer);
        }

-- ---- in the other order

turned_all : (P : ℕ → Type 0) (is : List ℕ) → AllByRecursion P is → AllByRecursion P (turned is)
turned_all P [] h = tt
turned_all P (i ∷ is) h = all_both P (turned is) (i ∷ []) (turned_all P is h.1) (h.0, tt)

turned_true : (es : List Entry) (is : List ℕ) (v : terms.Values) → AllTrue es is v → AllTrue es (turned is) v
turned_true es [] v h = tt
turned_true es (i ∷ is) v h = true_both es (turned is) (i ∷ []) v (turned_true es is v h.1) (h.0, tt)

turned_in : (k : ℕ) (is : List ℕ) → IsIn k is → IsIn k (turned is)
turned_in k [] h = absurd h
turned_in k (i ∷ is) (inl e) = in_right k (turned is) (i ∷ []) (inl e)
turned_in k (i ∷ is) (inr h) = in_left k (turned is) (i ∷ []) (turned_in k is h)

pub split_begins : (es : List Entry) (ids stack : List ℕ) (seen : ℕ → Bool) (parts : List ℕ) → AreRootParts es ids → stack ≡ turned ids → ((k : ℕ) → seen k ≡ false) → parts ≡ [] → SplitSoFar es ids stack seen parts
split_begins es ids stack seen parts r h none p =
    subst (λ is. SplitSoFar es ids is seen parts) (sym h)
    (subst (SplitSoFar es ids (turned ids) seen) (sym p) (split_none es ids (turned ids) seen (turned_all (IsRootPart es) ids r) (turned_true es ids) (λ k. turned_in k ids) none))

pub drop_next : (is : List ℕ) (k : ℕ) → k < length is → drop k is ≡ slice_index_or is k 0 ∷ drop (suc k) is
drop_next [] k h = absurd (omega (arith, h))
drop_next (i ∷ is) zero h = refl
drop_next (i ∷ is) (suc k) h = drop_next is k (omega (arith, h))

pub turned_next : (is : List ℕ) (k : ℕ) (before after : List ℕ) → k < length is → before ≡ turned (drop (suc k) is) → after ≡ before ++ slice_index_or is k 0 ∷ [] → after ≡ turned (drop k is)
turned_next is k before after l h a = a ∙ ap (λ xs. xs ++ slice_index_or is k 0 ∷ []) h ∙ sym (ap turned (drop_next is k l))

pub turned_end : (is : List ℕ) (k : ℕ) → length is ≤ k → turned (drop k is) ≡ []
turned_end [] zero h = refl
turned_end [] (suc k) h = refl
turned_end (i ∷ is) zero h = absurd (omega (arith, h))
turned_end (i ∷ is) (suc k) h = turned_end is k (omega (arith, h))
