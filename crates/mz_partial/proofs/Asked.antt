-- Nodes that may be made.
use Rattle.std.proofs.Common.{◌≡◌, ℕ, ◌<◌, ℤ, pos, List, [], ◌∷◌, length, map, take, Bool, true, false, ◌&&◌, cond, Some, None, IsSome, option_map, inl, inr, refl, sym, ap, subst, ◌∙◌}
use Rattle.mz_interval.specs.Ends.{Ends, hull_of, is_number}
use Rattle.mz_arena.specs.declared.node.Node.{Node}
use Rattle.mz_arena.specs.declared.node.NodeKind.{NodeKind}
use Rattle.mz_arena.specs.declared.node.NodeKind.TheVariants.{Int, Bool as BoolNode, Eq, Ne, Le, Lt, And, Or, Not, Iff, If}
use Rattle.mz_arena.specs.Entries.{Entry, entry, arity, children, AllBelow, is_free, is_set_const}
use Rattle.mz_arena.specs.Extents.{Known, whole, truth, open_truth, in_limit, bool_extent, comparison_extent, connective_extent, not_extent, if_extent, kind_extent, extent}
use Rattle.mz_arena.specs.Arenas.{IsAsked}
use Rattle.mz_partial.specs.declared.group.Group.TheVariants as group
use Rattle.mz_partial.specs.Groups.{group_of, is_inner}
use Rattle.mz_partial.specs.Totals.{IsTruth, IsWhole}
use Rattle.mz_partial.specs.Nodes.{MayRemake, AreAlike, compares, three}
use Rattle.mz_partial.proofs.Standing.{inner_other, inner_bound, inner_extent, inner_by, arity_by, taken, node_some, truth_in, extent_in}
use Rattle.mz_partial.proofs.ByKind.{connective_open, not_open, comparison_open, wholes_if, truths_if}

pub clash : {A : Type 0} (b : Bool) → b ≡ true → b ≡ false → A
clash b x y = absurd (cc)

asked : (es : List Entry) (n : Node) (js : List ℕ) → children n ≡ js → AllBelow (length es) js → is_free n.kind ≡ false → is_set_const n.kind ≡ false → IsSome (kind_extent (entry n) n.kind (map (extent es) js)) → IsAsked es n
asked es n js c b free other s = record {
  below = subst (λ is. AllBelow (length es) is) (sym c) b;
  bounded = subst (λ is. IsSome (kind_extent (entry n) n.kind (map (extent es) is))) (sym c) s;
  other = other;
  free = λ f. clash (is_free n.kind) f free;
}

asked_inner : (es : List Entry) (n : Node) (js : List ℕ) → children n ≡ js → AllBelow (length es) js → is_inner n.kind ≡ true → IsSome (kind_extent (entry n) n.kind (map (extent es) js)) → IsAsked es n
asked_inner es n js c b i s = asked es n js c b (inner_bound n.kind i) (inner_other n.kind i) s

some_as : (x y : Known) → x ≡ y → IsSome y → IsSome x
some_as x y h s = subst (λ (z : Known). IsSome z) (sym h) s

pub whole_in : (es : List Entry) (id : ℕ) → IsWhole es id → id < length es
whole_in es id t = extent_in es id (Some (whole t.ends)) refl t.is

pub asked_remake : (es : List Entry) (id : ℕ) (n made : Node) (js : List ℕ) → MayRemake es id n js → made.kind ≡ n.kind → children made ≡ js → IsAsked es made
asked_remake es id n made js m k c =
    let bounds : kind_extent (entry made) made.kind (map (extent es) js) ≡ kind_extent m.node.there n.kind (map (extent es) (children n)) =
    ap (λ j. kind_extent (entry made) j (map (extent es) js)) k ∙ inner_extent (entry made) m.node.there n.kind (map (extent es) js) m.inner ∙ ap (kind_extent m.node.there n.kind) m.bounds in
    asked_inner es made js c m.below (ap is_inner k ∙ m.inner) (some_as _ _ bounds (node_some es id n.kind (children n) m.arena m.node))

-- the bounds of a connective
pub connective_bounds : (e : Entry) (k : NodeKind) (x y : Known) (s t : Ends) → group_of k ≡ group.Connective → x ≡ Some (truth s) → y ≡ Some (truth t) → kind_extent e k (x ∷ y ∷ []) ≡ open_truth
connective_bounds e And x y s t g p q = ap (λ (z : Known). connective_extent z y) p ∙ ap (connective_extent (Some (truth s))) q ∙ connective_open s t
connective_bounds e Or x y s t g p q = ap (λ (z : Known). connective_extent z y) p ∙ ap (connective_extent (Some (truth s))) q ∙ connective_open s t
connective_bounds e Iff x y s t g p q = ap (λ (z : Known). connective_extent z y) p ∙ ap (connective_extent (Some (truth s))) q ∙ connective_open s t
connective_bounds e _ x y s t g p q = absurd (cc)

pub asked_connective : (es : List Entry) (n : Node) → group_of n.kind ≡ group.Connective → IsTruth es n.a → IsTruth es n.b → IsAsked es n
asked_connective es n g a b =
    asked_inner es n (n.a ∷ n.b ∷ []) (taken n.kind 2 (n.a ∷ n.b ∷ n.c ∷ []) (arity_by n.kind group.Connective g refl)) (truth_in es n.a a, (truth_in es n.b b, tt)) (inner_by n.kind group.Connective g refl)
    (some_as _ _ (connective_bounds (entry n) n.kind (extent es n.a) (extent es n.b) a.ends b.ends g a.is b.is) refl)

pub asked_negation : (es : List Entry) (n : Node) → n.kind ≡ Not → IsTruth es n.a → IsAsked es n
asked_negation es n g a =
    asked_inner es n (n.a ∷ []) (taken n.kind 1 (n.a ∷ n.b ∷ n.c ∷ []) (ap arity g)) (truth_in es n.a a, tt) (ap is_inner g)
    (some_as _ _ (ap (λ k. kind_extent (entry n) k (extent es n.a ∷ [])) g ∙ ap not_extent a.is ∙ not_open a.ends) refl)

compares_inner : (k : NodeKind) → compares k ≡ true → is_inner k ≡ true
compares_inner Eq h = refl
compares_inner Ne h = refl
compares_inner Le h = refl
compares_inner Lt h = refl
compares_inner _ h = absurd (cc)

compares_two : (k : NodeKind) → compares k ≡ true → arity k ≡ 2
compares_two Eq h = refl
compares_two Ne h = refl
compares_two Le h = refl
compares_two Lt h = refl
compares_two _ h = absurd (cc)

pub comparison_bounds : (e : Entry) (k : NodeKind) (x y : Known) (s t : Ends) → compares k ≡ true → x ≡ Some (whole s) → y ≡ Some (whole t) → kind_extent e k (x ∷ y ∷ []) ≡ open_truth
comparison_bounds e Eq x y s t g p q = ap (λ (z : Known). comparison_extent z y) p ∙ ap (comparison_extent (Some (whole s))) q ∙ comparison_open s t
comparison_bounds e Ne x y s t g p q = ap (λ (z : Known). comparison_extent z y) p ∙ ap (comparison_extent (Some (whole s))) q ∙ comparison_open s t
comparison_bounds e Le x y s t g p q = ap (λ (z : Known). comparison_extent z y) p ∙ ap (comparison_extent (Some (whole s))) q ∙ comparison_open s t
comparison_bounds e Lt x y s t g p q = ap (λ (z : Known). comparison_extent z y) p ∙ ap (comparison_extent (Some (whole s))) q ∙ comparison_open s t
comparison_bounds e _ x y s t g p q = absurd (cc)

pub asked_comparison : (es : List Entry) (n : Node) → compares n.kind ≡ true → IsWhole es n.a → IsWhole es n.b → IsAsked es n
asked_comparison es n g a b =
    asked_inner es n (n.a ∷ n.b ∷ []) (taken n.kind 2 (n.a ∷ n.b ∷ n.c ∷ []) (compares_two n.kind g)) (whole_in es n.a a, (whole_in es n.b b, tt)) (compares_inner n.kind g)
    (some_as _ _ (comparison_bounds (entry n) n.kind (extent es n.a) (extent es n.b) a.ends b.ends g a.is b.is) refl)

pub compares_bound : (k : NodeKind) → compares k ≡ true → is_free k ≡ false
compares_bound k g = inner_bound k (compares_inner k g)

pub connective_bound : (k : NodeKind) → group_of k ≡ group.Connective → is_free k ≡ false
connective_bound k g = inner_bound k (inner_by k group.Connective g refl)

if_as : (x y z p q r : Known) → x ≡ p → y ≡ q → z ≡ r → if_extent x y z ≡ if_extent p q r
if_as x y z p q r a b c = ap (λ o. if_extent o y z) a ∙ ap (λ o. if_extent p o z) b ∙ ap (λ o. if_extent p q o) c

pub wholes_choice : (x y z : Known) (c e f : Ends) → x ≡ Some (truth c) → y ≡ Some (whole e) → z ≡ Some (whole f) → if_extent x y z ≡ Some (whole (hull_of e f))
wholes_choice x y z c e f a b d = if_as x y z _ _ _ a b d ∙ wholes_if c e f

pub truths_choice : (x y z : Known) (c e f : Ends) → x ≡ Some (truth c) → y ≡ Some (truth e) → z ≡ Some (truth f) → if_extent x y z ≡ open_truth
truths_choice x y z c e f a b d = if_as x y z _ _ _ a b d ∙ truths_if c e f

pub asked_choice : (es : List Entry) (n : Node) → n.kind ≡ If → IsTruth es n.a → AreAlike es n.b n.c → IsAsked es n
asked_choice es n g c s =
    asked_inner es n (three n.a n.b n.c) (taken n.kind 3 (n.a ∷ n.b ∷ n.c ∷ []) (ap arity g)) (truth_in es n.a c, below s) (ap is_inner g)
    (some_as _ _ (ap (λ k. kind_extent (entry n) k (extent es n.a ∷ extent es n.b ∷ extent es n.c ∷ [])) g) (some s))
  where
    below : AreAlike es n.b n.c → AllBelow (length es) (n.b ∷ n.c ∷ [])
    below (inl w) = (whole_in es n.b w.0, (whole_in es n.c w.1, tt))
    below (inr w) = (truth_in es n.b w.0, (truth_in es n.c w.1, tt))

    some : AreAlike es n.b n.c → IsSome (if_extent (extent es n.a) (extent es n.b) (extent es n.c))
    some (inl w) = some_as _ _ (wholes_choice _ _ _ c.ends w.0.ends w.1.ends c.is w.0.is w.1.is) refl
    some (inr w) = some_as _ _ (truths_choice _ _ _ c.ends w.0.ends w.1.ends c.is w.0.is w.1.is) refl

-- ---- constants

pub number_bounds : (n : ℤ) → is_number n ≡ true → in_limit (n, n) ≡ Some (whole (n, n))
number_bounds n h = by (is_number n) h
  where
    by : (b : Bool) → b ≡ true → option_map whole (cond (b && b) (Some (n, n)) None) ≡ Some (whole (n, n))
    by true g = refl
    by false g = absurd (cc)

pub asked_number : (es : List Entry) (n : Node) (m : ℤ) → n.kind ≡ Int → n.number ≡ m → is_number m ≡ true → IsAsked es n
asked_number es n m g e h =
    asked es n [] (ap (λ j. take (arity j) (n.a ∷ n.b ∷ n.c ∷ [])) g) tt (ap is_free g) (ap is_set_const g)
    (some_as _ _ (ap (λ k. kind_extent (entry n) k []) g ∙ ap (λ i. in_limit (i, i)) e ∙ number_bounds m h) refl)

pub asked_constant : (es : List Entry) (n : Node) (b : ℤ) → n.kind ≡ BoolNode → n.number ≡ b → IsSome (bool_extent b) → IsAsked es n
asked_constant es n b g h s =
    asked es n [] (ap (λ j. take (arity j) (n.a ∷ n.b ∷ n.c ∷ [])) g) tt (ap is_free g) (ap is_set_const g)
    (some_as _ _ (ap (λ k. kind_extent (entry n) k []) g ∙ ap bool_extent h) s)

pub one_there : bool_extent (pos 1) ≡ Some (truth (pos 1, pos 1))
unfolding bool_extent
one_there = refl

pub zero_there : bool_extent (pos 0) ≡ Some (truth (pos 0, pos 0))
unfolding bool_extent
zero_there = refl
