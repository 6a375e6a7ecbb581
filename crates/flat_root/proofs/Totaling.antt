-- Roots as total terms, one after the other.
use Rattle.std.proofs.Common.{◌≡◌, ℕ, zero, suc, ◌+◌, ◌<◌, Bool, true, false, List, [], ◌∷◌, ◌++◌, length, take, Some, None, IsSome, slice_get, refl, sym, ap, subst, ◌∙◌, arith}
use Rattle.std.specs.List.{AllByRecursion}
use Rattle.mz_arena.specs.Entries.{Entry}
use Rattle.mz_arena.specs.Values as terms
use Rattle.mz_arena.specs.Values.{Term, Val, bit, is_true}
use Rattle.mz_arena.specs.Terms.{term}
use Rattle.mz_arena.specs.Extents.{Known, as_truth, extent}
use Rattle.mz_arena.specs.Arenas.{Extends}
use Rattle.mz_arena.proofs.Terms as laws
use Rattle.mz_partial.specs.declared.memo.Pair.{Pair}
use Rattle.mz_partial.specs.Totals.{only, IsTruth}
use Rattle.mz_partial.proofs.Standing.{extent_in, total_later}
use Rattle.flat_reif.specs.States.{State, Always}
use Rattle.flat_reif.specs.Roots.{IsTruthNode, GrownTo}
use Rattle.flat_root.specs.Keeps.{IsReadyState, AllTrue}
use Rattle.flat_root.specs.Totals.{IsRoot, AreRoots, IsRootPart, AreRootParts, Totals, AddsTotal}
use Rattle.flat_root.proofs.Keeping.{keeps_twice, keeps_where, keeps_spread, keeps_grown, ready_grown, fewer_domains}
use Rattle.flat_reif.proofs.Steps.{spreads_same}
use Rattle.flat_root.proofs.Marking.{all_both, take_next}

-- ---- one root

bit_true : (b : Bool) → is_true (bit b) ≡ b
bit_true true = refl
bit_true false = refl

record AreBoth (d t : Term) : Type 0 where
  defined : is_true d ≡ true
  value : is_true t ≡ true

both_true : (d t o : Term) (b : Bool) (w : Val) → d ≡ bit b → t ≡ Some w → o ≡ only b w → is_true o ≡ true → AreBoth d t
both_true d t o true w hd ht ho y = record { defined = ap is_true hd; value = ap is_true ht ∙ sym (ap is_true ho) ∙ y }
both_true d t o false w hd ht ho y = let no : is_true (only false w) ≡ true = sym (ap is_true ho) ∙ y in absurd (cc)

old_true : (d t o : Term) (b : Bool) (w : Val) → d ≡ bit b → t ≡ Some w → o ≡ only b w → is_true d ≡ true → is_true t ≡ true → is_true o ≡ true
old_true d t o true w hd ht ho y z = ap is_true ho ∙ sym (ap is_true ht) ∙ z
old_true d t o false w hd ht ho y z = let no : is_true (bit false) ≡ true = sym (ap is_true hd) ∙ y in absurd (cc)

pub truth_node : (es : List Entry) (id : ℕ) → IsTruth es id → IsTruthNode es id
truth_node es id t = subst (λ (x : Known). IsSome (as_truth x)) (sym t.is) refl

node_truth : (es : List Entry) (i j : ℕ) → extent es i ≡ extent es j → IsTruthNode es j → IsTruthNode es i
node_truth es i j same h = subst (λ (x : Known). IsSome (as_truth x)) (sym same) h

truth_known : (x : Known) → IsSome (as_truth x) → IsSome x
truth_known None h = absurd (cc)
truth_known (Some e) h = refl

pub root_of : (es : List Entry) (id : ℕ) → IsTruthNode es id → IsRoot es id
root_of es id h = record { place = extent_in es id (extent es id) (truth_known (extent es id) h) refl; truth = h }

pub root_later : (xs ys : List Entry) (id : ℕ) → Extends xs ys → IsRoot xs id → IsRoot ys id
root_later xs ys id x r = record { place = omega (arith, r.place, x.grew.longer); truth = subst (λ (z : Known). IsSome (as_truth z)) (sym (x.grew.extents id r.place)) r.truth }

part_later : (xs ys : List Entry) (id : ℕ) → Extends xs ys → IsRootPart xs id → IsRootPart ys id
part_later xs ys id x r = record { root = root_later xs ys id x r.root; total = total_later xs ys id x.grew r.total }

pub parts_later : (xs ys : List Entry) (ids : List ℕ) → Extends xs ys → AreRootParts xs ids → AreRootParts ys ids
parts_later xs ys [] x h = tt
parts_later xs ys (id ∷ ids) x h = (part_later xs ys id x h.0, parts_later xs ys ids x h.1)

pub true_later : (xs ys : List Entry) (id : ℕ) (v : terms.Values) → Extends xs ys → id < length xs → term v ys id ≡ term v xs id
true_later xs ys id v x l = x.grew.terms v id l

pub all_true_later : (xs ys : List Entry) (ids : List ℕ) (v : terms.Values) → Extends xs ys → AreRootParts xs ids → AllTrue xs ids v → AllTrue ys ids v
all_true_later xs ys [] v x r h = tt
all_true_later xs ys (id ∷ ids) v x r h = (ap is_true (true_later xs ys id v x r.0.root.place) ∙ h.0, all_true_later xs ys ids v x r.1 h.1)

pub all_true_before : (xs ys : List Entry) (ids : List ℕ) (v : terms.Values) → Extends xs ys → AreRootParts xs ids → AllTrue ys ids v → AllTrue xs ids v
all_true_before xs ys [] v x r h = tt
all_true_before xs ys (id ∷ ids) v x r h = (sym (ap is_true (true_later xs ys id v x r.0.root.place)) ∙ h.0, all_true_before xs ys ids v x r.1 h.1)

pub one_totals : (s t : State) (id : ℕ) (p : Pair) → IsReadyState s → IsRoot s.es id → GrownTo s t id p → Totals s t (id ∷ []) (p.defined ∷ p.term ∷ [])
one_totals s t id p r root g =
    let x = g.grown.extends in
    let later : IsRoot t.es id = root_later s.es t.es id x root in
    record {
      keeps = keeps_grown s t g.grown;
      ready = ready_grown s t g.grown r.front;
      each = (record { root = root_of t.es p.defined (truth_node t.es p.defined g.pair.truth); total = g.pair.defined }, (record { root = root_of t.es p.term (node_truth t.es p.term id g.pair.bounds later.truth); total = g.pair.total }, tt));
      to = λ v d y.
          let z = g.pair.splits v (laws.domains_lie t.es g.grown.state.arena v d) in
          let b = both_true (term v t.es p.defined) (term v t.es p.term) (term v t.es id) z.holds z.value z.is_defined z.has_value z.is_old (ap is_true (true_later s.es t.es id v x root.place) ∙ y.0) in
          (b.defined, (b.value, tt));
      from = λ v d y.
          let z = g.pair.splits v (laws.domains_lie t.es g.grown.state.arena v d) in
          (sym (ap is_true (true_later s.es t.es id v x root.place)) ∙ old_true (term v t.es p.defined) (term v t.es p.term) (term v t.es id) z.holds z.value z.is_defined z.has_value z.is_old y.0 y.1.0, tt);
    }

-- ---- several

pub no_totals : (s : State) → IsReadyState s → Totals s s [] []
no_totals s r = record { keeps = keeps_spread s s Always (spreads_same s); ready = r; each = tt; to = λ v d y. tt; from = λ v d y. tt }

pub all_first : (P : ℕ → Type 0) (xs ys : List ℕ) → AllByRecursion P (xs ++ ys) → AllByRecursion P xs
all_first P [] ys a = tt
all_first P (x ∷ xs) ys a = (a.0, all_first P xs ys a.1)

pub all_second : (P : ℕ → Type 0) (xs ys : List ℕ) → AllByRecursion P (xs ++ ys) → AllByRecursion P ys
all_second P [] ys a = a
all_second P (x ∷ xs) ys a = all_second P xs ys a.1

pub true_both : (es : List Entry) (xs ys : List ℕ) (v : terms.Values) → AllTrue es xs v → AllTrue es ys v → AllTrue es (xs ++ ys) v
true_both es [] ys v a b = b
true_both es (x ∷ xs) ys v a b = (a.0, true_both es xs ys v a.1 b)

pub true_first : (es : List Entry) (xs ys : List ℕ) (v : terms.Values) → AllTrue es (xs ++ ys) v → AllTrue es xs v
true_first es [] ys v a = tt
true_first es (x ∷ xs) ys v a = (a.0, true_first es xs ys v a.1)

pub true_second : (es : List Entry) (xs ys : List ℕ) (v : terms.Values) → AllTrue es (xs ++ ys) v → AllTrue es ys v
true_second es [] ys v a = a
true_second es (x ∷ xs) ys v a = true_second es xs ys v a.1

pub one_added : (s t : State) (id : ℕ) (p : Pair) (d dn ts tn : List ℕ) → IsReadyState s → IsRoot s.es id → GrownTo s t id p → dn ≡ d ++ p.defined ∷ [] → tn ≡ ts ++ p.term ∷ [] → AddsTotal s t id d dn ts tn
one_added s t id p d dn ts tn r root g e f = record { has = p.defined; term = p.term; defined_is = e; terms_are = f; totals = one_totals s t id p r root g }

module _ (s t u : State) (roots d ts : List ℕ) (id x w : ℕ) (root : IsRoot s.es id) (f : Totals s t roots (d ++ ts)) (g : Totals t u (id ∷ []) (x ∷ w ∷ [])) where
  grown : Extends t.es u.es
  grown = g.keeps.extends

  started : Extends s.es t.es
  started = f.keeps.extends

  old_all : (v : terms.Values) → AllTrue u.es ((d ++ x ∷ []) ++ (ts ++ w ∷ [])) v → AllTrue u.es (d ++ ts) v
  old_all v h = true_both u.es d ts v (true_first u.es d (x ∷ []) v (true_first u.es (d ++ x ∷ []) (ts ++ w ∷ []) v h)) (true_first u.es ts (w ∷ []) v (true_second u.es (d ++ x ∷ []) (ts ++ w ∷ []) v h))

  new_all : (v : terms.Values) → AllTrue u.es ((d ++ x ∷ []) ++ (ts ++ w ∷ [])) v → AllTrue u.es (x ∷ w ∷ []) v
  new_all v h = ((true_second u.es d (x ∷ []) v (true_first u.es (d ++ x ∷ []) (ts ++ w ∷ []) v h)).0, true_second u.es ts (w ∷ []) v (true_second u.es (d ++ x ∷ []) (ts ++ w ∷ []) v h))

  all_new : (v : terms.Values) → AllTrue u.es (d ++ ts) v → AllTrue u.es (x ∷ w ∷ []) v → AllTrue u.es ((d ++ x ∷ []) ++ (ts ++ w ∷ [])) v
  all_new v h k = true_both u.es (d ++ x ∷ []) (ts ++ w ∷ []) v (true_both u.es d (x ∷ []) v (true_first u.es d ts v h) (k.0, tt)) (true_both u.es ts (w ∷ []) v (true_second u.es d ts v h) k.1)

  parts_all : AreRootParts u.es ((d ++ x ∷ []) ++ (ts ++ w ∷ []))
  parts_all =
      let old = parts_later t.es u.es (d ++ ts) grown f.each in
      all_both (IsRootPart u.es) (d ++ x ∷ []) (ts ++ w ∷ []) (all_both (IsRootPart u.es) d (x ∷ []) (all_first (IsRootPart u.es) d ts old) (g.each.0, tt)) (all_both (IsRootPart u.es) ts (w ∷ []) (all_second (IsRootPart u.es) d ts old) g.each.1)

  totals_then : Totals s u (roots ++ id ∷ []) ((d ++ x ∷ []) ++ (ts ++ w ∷ []))
  totals_then = record {
    keeps = keeps_where s u (λ v. Always v × Always v) Always (keeps_twice s t u Always Always f.keeps g.keeps) (λ v e c. tt) (λ v e c. (tt, tt));
    ready = g.ready;
    each = parts_all;
    to = λ v e h.
        let b = fewer_domains t.es u.es grown v e in
        all_new v
        (all_true_later t.es u.es (d ++ ts) v grown f.each (f.to v b (true_first s.es roots (id ∷ []) v h)))
        (g.to v e (ap is_true (true_later s.es t.es id v started root.place) ∙ (true_second s.es roots (id ∷ []) v h).0, tt));
    from = λ v e h.
        let b = fewer_domains t.es u.es grown v e in
        true_both s.es roots (id ∷ []) v
        (f.from v b (all_true_before t.es u.es (d ++ ts) v grown f.each (old_all v h)))
        (sym (ap is_true (true_later s.es t.es id v started root.place)) ∙ (g.from v e (new_all v h)).0, tt);
  }

next_taken : (is : List ℕ) (k i : ℕ) → slice_get is k ≡ Some i → take (k + 1) is ≡ take k is ++ i ∷ []
next_taken is k i h = let next : k + 1 ≡ suc k = omega arith in ap (λ m. take m is) next ∙ take_next is k i h

pub totals_next : (s t u : State) (roots d dn ts tn : List ℕ) (k id : ℕ) → slice_get roots k ≡ Some id → IsRoot s.es id → Totals s t (take k roots) (d ++ ts) → AddsTotal t u id d dn ts tn → Totals s u (take (k + 1) roots) (dn ++ tn)
totals_next s t u roots d dn ts tn k id h root f a =
    subst (λ is. Totals s u is (dn ++ tn)) (sym (next_taken roots k id h))
    (subst (λ is. Totals s u (take k roots ++ id ∷ []) (is ++ tn)) (sym a.defined_is)
    (subst (λ is. Totals s u (take k roots ++ id ∷ []) ((d ++ a.has ∷ []) ++ is)) (sym a.terms_are)
    (totals_then s t u (take k roots) d ts id a.has a.term root f a.totals)))

pub totals_begin : (s : State) (parts : List ℕ) → IsReadyState s → parts ≡ [] → Totals s s [] parts
totals_begin s parts r e = subst (Totals s s []) (sym e) (no_totals s r)

joined_two : (a : List ℕ) (x y : ℕ) → (a ++ x ∷ []) ++ y ∷ [] ≡ a ++ x ∷ y ∷ []
joined_two [] x y = refl
joined_two (z ∷ a) x y = ap (λ is. z ∷ is) (joined_two a x y)

pub two_pushed : (a b c : List ℕ) (x y : ℕ) → b ≡ a ++ x ∷ [] → c ≡ b ++ y ∷ [] → c ≡ a ++ x ∷ y ∷ []
two_pushed a b c x y h k = k ∙ ap (λ is. is ++ y ∷ []) h ∙ joined_two a x y

pub root_at : (s t : State) (roots parts : List ℕ) (done : List ℕ) (k i : ℕ) → slice_get roots k ≡ Some i → AreRoots s.es roots → Totals s t done parts → IsRoot t.es i
root_at s t [] parts done k i h r f = absurd (cc)
root_at s t (j ∷ roots) parts done zero i h r f = let same : j ≡ i = cc in root_later s.es t.es i f.keeps.extends (subst (IsRoot s.es) same r.0)
root_at s t (j ∷ roots) parts done (suc k) i h r f = root_at s t roots parts done k i h r.1 f

pub old_root_at : (s : State) (roots : List ℕ) (k i : ℕ) → slice_get roots k ≡ Some i → AreRoots s.es roots → IsRoot s.es i
old_root_at s [] k i h r = absurd (cc)
old_root_at s (j ∷ roots) zero i h r = let same : j ≡ i = cc in subst (IsRoot s.es) same r.0
old_root_at s (j ∷ roots) (suc k) i h r = old_root_at s roots k i h r.1
