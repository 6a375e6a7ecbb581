-- The laws: one induction over the nodes.
use Rattle.std.proofs.Common.{◌≡◌, ℕ, zero, suc, ◌<◌, ◌≤◌, ℤ, pos, List, [], ◌∷◌, map, take, slice_get, Bool, true, false, cond, ◌&&◌, Option, Some, None, refl, sym, subst, arith}
use Rattle.std.specs.Ordering.{int_eq}
use Rattle.std.proofs.lemmas.Int.{ints}
use Rattle.mz_value.specs.Ranges.{Range, Has}
use Rattle.mz_interval.specs.Ends.{Ends, Encloses}
use Rattle.mz_operations.specs.Bounds.{hull_of_set}
use Rattle.mz_operations.specs.Laws.{IsSet}
use Rattle.mz_operations.proofs.SetBounds.{hull_of_set-has}
use Rattle.mz_arena.specs.declared.node.NodeKind.{NodeKind}
use Rattle.mz_arena.specs.declared.node.NodeKind.TheVariants.{Var, Local, SetVar, SetLocal}
use Rattle.mz_arena.specs.Entries.{Entry, arity, children, AllBelow, is_free}
use Rattle.mz_arena.specs.Values.{number, set, Term, Values}
use Rattle.mz_arena.specs.Terms.{own_id, kind_term, node_term, terms, term}
use Rattle.mz_arena.specs.Extents.{Known, truth, subset, is_bit, both_truths, marked, variable_extent, set_variable_extent, kind_extent, node_extent, extents, extent}
use Rattle.mz_arena.specs.Arenas.{IsArena}
use Rattle.mz_arena.specs.InBounds.{IsSetIn, IsOfDomain, AreInBounds, Lies, HasSets, TermsLie, DomainsLie, BoundsAreSets}
use Rattle.mz_arena.proofs.Folds.{unroll, at-past, get-length}
use Rattle.mz_arena.proofs.Growing.{const_extent}
use Rattle.mz_arena.proofs.Families.{limited_lies}
use Rattle.mz_arena.proofs.ByKind.{AllHaveSets, kind_sets, AllLie, kind_lies}

-- ---- one node from its children

abbrev sets_at : List Entry → ℕ → Type 0
sets_at es id = HasSets (extent es id)

all_sets : (es : List Entry) (n : ℕ) (is : List ℕ) → ((i : ℕ) → i < n → HasSets (extent es i)) → AllBelow n is → AllHaveSets (extent es) is
all_sets es n [] h below = tt
all_sets es n (i ∷ is) h below = (h i below.0, all_sets es n is h below.1)

below_below : (m n : ℕ) (is : List ℕ) → m ≤ n → AllBelow m is → AllBelow n is
below_below m n [] h all = tt
below_below m n (i ∷ is) h all = (omega (arith, all.0), below_below m n is h all.1)

-- there are no bounds past the last node
past : (es : List Entry) (id : ℕ) → slice_get es id ≡ None → extent es id ≡ None
unfolding extents
past es id h = at-past node_extent es id (get-length es id h)

abbrev bounds_are : List Entry → ℕ → Entry → Type 0
bounds_are es id e = extent es id ≡ node_extent e (map (extent es) (children e.node))

extent_is : (es : List Entry) (id : ℕ) (e : Entry) → IsArena es → slice_get es id ≡ Some e → extent es id ≡ node_extent e (map (extent es) (children e.node))
unfolding extents
extent_is es id e a h = unroll node_extent es id e h (a.ordered id e h)

term_is : (v : Values) (es : List Entry) (id : ℕ) (e : Entry) → IsArena es → slice_get es id ≡ Some e → term v es id ≡ node_term v e (map (term v es) (children e.node))
unfolding terms
term_is v es id e a h = unroll (node_term v) es id e h (a.ordered id e h)

sets_step : (es : List Entry) (id n : ℕ) → IsArena es → id ≤ n → ((i : ℕ) → i < n → HasSets (extent es i)) → HasSets (extent es id)
sets_step es id n a l h = by (slice_get es id) refl
  where
    by : (o : Option Entry) → slice_get es id ≡ o → HasSets (extent es id)
    by None g = subst (λ (x : Known). HasSets x) (sym (past es id g)) tt
    by (Some e) g =
        let parts = all_sets es n (children e.node) h (below_below id n (children e.node) l (a.ordered id e g)) in
        subst (λ (x : Known). HasSets x) (sym (extent_is es id e a g)) (kind_sets e e.node.kind (extent es) e.node.a e.node.b e.node.c (a.canonical id e g) parts)

sets_below : (es : List Entry) → IsArena es → (n id : ℕ) → id < n → HasSets (extent es id)
sets_below es a zero id l = absurd (omega arith)
sets_below es a (suc n) id l = sets_step es id n a (omega arith) (sets_below es a n)

pub bounds_are_sets : BoundsAreSets
bounds_are_sets es a id = sets_below es a (suc id) id (omega arith)

-- ---- terms

all_lie : (es : List Entry) (v : Values) (n : ℕ) (is : List ℕ) → IsArena es → ((i : ℕ) → i < n → Lies (extent es i) (term v es i)) → AllBelow n is → AllLie (extent es) (term v es) is
all_lie es v n [] a h below = tt
all_lie es v n (i ∷ is) a h below = (record { sets = bounds_are_sets es a i; lies = h i below.0 }, all_lie es v n is a h below.1)

lies_step : (es : List Entry) (v : Values) (id n : ℕ) → IsArena es → AreInBounds es v → id ≤ n → ((i : ℕ) → i < n → Lies (extent es i) (term v es i)) → Lies (extent es id) (term v es id)
lies_step es v id n a inside l h = by (slice_get es id) refl
  where
    node : (e : Entry) (f : Bool) → slice_get es id ≡ Some e → is_free e.node.kind ≡ f → Lies (extent es id) (term v es id)
    node e true g f = inside id e g f
    node e false g f =
        let parts = all_lie es v n (children e.node) a h (below_below id n (children e.node) l (a.ordered id e g)) in
        let over = kind_lies v e e.node.kind (extent es) (term v es) e.node.a e.node.b e.node.c f (a.canonical id e g) parts in
        subst (λ (x : Known). Lies x (term v es id)) (sym (extent_is es id e a g)) (subst (λ (t : Term). Lies (node_extent e (map (extent es) (children e.node))) t) (sym (term_is v es id e a g)) over)

    by : (o : Option Entry) → slice_get es id ≡ o → Lies (extent es id) (term v es id)
    by None g = subst (λ (x : Known). Lies x (term v es id)) (sym (past es id g)) tt
    by (Some e) g = node e (is_free e.node.kind) g refl

lies_below : (es : List Entry) (v : Values) → IsArena es → AreInBounds es v → (n id : ℕ) → id < n → Lies (extent es id) (term v es id)
lies_below es v a inside zero id l = absurd (omega arith)
lies_below es v a inside (suc n) id l = lies_step es v id n a inside (omega arith) (lies_below es v a inside n)

pub terms_lie : TermsLie
terms_lie es a v inside id = lies_below es v a inside (suc id) id (omega arith)

-- ---- values in their domains

both_lie : (e : Ends) (n : ℤ) → Encloses e n → Lies (both_truths e) (Some (number n))
both_lie e n h = by (int_eq e.0 (pos 0)) (int_eq e.1 (pos 1)) refl refl
  where
    bit : int_eq e.0 (pos 0) ≡ true → int_eq e.1 (pos 1) ≡ true → is_bit n ≡ true
    bit p q =
        let low : e.0 ≡ pos 0 = grind (arith, ints) in
        let high : e.1 ≡ pos 1 = grind (arith, ints) in
        grind (arith, ints)

    by : (s t : Bool) → int_eq e.0 (pos 0) ≡ s → int_eq e.1 (pos 1) ≡ t → Lies (cond (s && t) (Some (truth e)) None) (Some (number n))
    by true true p q = record { bit = bit p q; inside = h }
    by true false p q = tt
    by false t p q = tt

marked_lies : (m : ℕ) (e : Ends) (n : ℤ) → Encloses e n → Lies (marked m e) (Some (number n))
marked_lies zero e n h = limited_lies e n h
marked_lies (suc zero) e n h = both_lie e n h
marked_lies (suc (suc m)) e n h = tt

variable_lies : (m : ℕ) (u : List Range) (n : ℤ) → IsSet u → Has u n → Lies (variable_extent m (Some (subset u))) (Some (number n))
unfolding variable_extent
variable_lies m u n p h = marked_lies m (hull_of_set u) n (hull_of_set-has u n p.0 h)

set_variable_lies : (u s : List Range) → IsSetIn u s → Lies (set_variable_extent (Some (subset u))) (Some (set s))
unfolding set_variable_extent
set_variable_lies u s h = h

-- a variable or a choice over its domain
free_lies : (v : Values) (e : Entry) (k : NodeKind) (f : ℕ → Known) (g : ℕ → Term) (u : List Range) → is_free k ≡ true → f e.node.a ≡ Some (subset u) → IsSet u → IsOfDomain v e.node k u → Lies (kind_extent e k (map f (take (arity k) (e.node.a ∷ e.node.b ∷ e.node.c ∷ [])))) (kind_term v e k (map g (take (arity k) (e.node.a ∷ e.node.b ∷ e.node.c ∷ []))))
free_lies v e Var f g u free d p h = subst (λ (x : Known). Lies (variable_extent e.node.c x) (Some (number (v.number (own_id e.node))))) (sym d) (variable_lies e.node.c u (v.number (own_id e.node)) p h)
free_lies v e Local f g u free d p h = subst (λ (x : Known). Lies (variable_extent e.node.c x) (Some (number (v.number (own_id e.node))))) (sym d) (variable_lies e.node.c u (v.number (own_id e.node)) p h)
free_lies v e SetVar f g u free d p h = subst (λ (x : Known). Lies (set_variable_extent x) (Some (set (v.set (own_id e.node))))) (sym d) (set_variable_lies u (v.set (own_id e.node)) h)
free_lies v e SetLocal f g u free d p h = subst (λ (x : Known). Lies (set_variable_extent x) (Some (set (v.set (own_id e.node))))) (sym d) (set_variable_lies u (v.set (own_id e.node)) h)
free_lies v e _ f g u free d p h = absurd (cc)

pub domains_lie : DomainsLie
domains_lie es a v inside id e there free =
    let const = (a.domains id e there free).const in
    let over =
    free_lies v e e.node.kind (extent es) (term v es) const.there.set free (const_extent es e.node.a a const) (a.canonical e.node.a const.there const.stands const.is) (inside id e const.there there const.stands) in
    subst (λ (x : Known). Lies x (term v es id)) (sym (extent_is es id e a there)) (subst (λ (t : Term). Lies (node_extent e (map (extent es) (children e.node))) t) (sym (term_is v es id e a there)) over)
