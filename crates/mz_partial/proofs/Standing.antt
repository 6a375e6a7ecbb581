-- Nodes by their kinds and children, and what stays where an arena goes on.
use Rattle.std.proofs.Common.{◌≡◌, ℕ, zero, suc, ◌<◌, List, [], ◌∷◌, length, map, take, Bool, true, false, Option, Some, None, IsSome, option_map, inl, inr, slice_get, refl, sym, ap, subst, ◌∙◌, arith}
use Rattle.std.proofs.lemmas.Bool.{cases_lt}
use Rattle.mz_arena.specs.declared.node.NodeKind.{NodeKind}
use Rattle.mz_arena.specs.declared.node.NodeKind.TheVariants.{Int, Bool as BoolNode, Var, Local, Nil, SetConst, SetVar, SetLocal}
use Rattle.mz_arena.specs.declared.node.Node.{Node}
use Rattle.mz_arena.specs.Entries.{Entry, arity, children, AllBelow, is_free, is_set_const}
use Rattle.mz_arena.specs.Values.{Val, Term, Values}
use Rattle.mz_arena.specs.Terms.{kind_term, node_term, terms, term}
use Rattle.mz_arena.specs.Extents.{Known, truth, kind_extent, node_extent, extents, extent}
use Rattle.mz_arena.specs.Arenas.{IsArena, Grew, Extends}
use Rattle.mz_arena.specs.InBounds.{Lies, AreInBounds}
use Rattle.mz_arena.proofs.Folds.{unroll, get-below, at-past}
use Rattle.mz_arena.proofs.Growing.{grew_same, grew_both}
use Rattle.mz_partial.specs.declared.part.Part.{Part}
use Rattle.mz_partial.specs.declared.group.Group.{Group}
use Rattle.mz_partial.specs.Groups.{group_of, reads, is_inner_group, is_inner}
use Rattle.mz_partial.specs.Totals.{IsTotal, is_total, IsTruth, SaysAt, Says, Has, IsOpen, Tells, IsPart}
use Rattle.mz_partial.specs.Nodes.{IsNode}
use Rattle.mz_partial.proofs.Told.{told_before, kept_count}

-- ---- an inner node doesn't read its own fields

pub inner_term : (v w : Values) (e f : Entry) (k : NodeKind) (xs : List Term) → is_inner k ≡ true → kind_term v e k xs ≡ kind_term w f k xs
inner_term v w e f Int xs h = absurd (cc)
inner_term v w e f BoolNode xs h = absurd (cc)
inner_term v w e f Var xs h = absurd (cc)
inner_term v w e f Local xs h = absurd (cc)
inner_term v w e f Nil xs h = absurd (cc)
inner_term v w e f SetConst xs h = absurd (cc)
inner_term v w e f SetVar xs h = absurd (cc)
inner_term v w e f SetLocal xs h = absurd (cc)
inner_term v w e f _ xs h = refl

pub inner_extent : (e f : Entry) (k : NodeKind) (xs : List Known) → is_inner k ≡ true → kind_extent e k xs ≡ kind_extent f k xs
inner_extent e f Int xs h = absurd (cc)
inner_extent e f BoolNode xs h = absurd (cc)
inner_extent e f Var xs h = absurd (cc)
inner_extent e f Local xs h = absurd (cc)
inner_extent e f Nil xs h = absurd (cc)
inner_extent e f SetConst xs h = absurd (cc)
inner_extent e f SetVar xs h = absurd (cc)
inner_extent e f SetLocal xs h = absurd (cc)
inner_extent e f _ xs h = refl

pub inner_bound : (k : NodeKind) → is_inner k ≡ true → is_free k ≡ false
inner_bound Var h = absurd (cc)
inner_bound Local h = absurd (cc)
inner_bound SetVar h = absurd (cc)
inner_bound SetLocal h = absurd (cc)
inner_bound _ h = refl

pub inner_other : (k : NodeKind) → is_inner k ≡ true → is_set_const k ≡ false
inner_other SetConst h = absurd (cc)
inner_other _ h = refl

pub inner_arity : (k : NodeKind) → is_inner k ≡ true → arity k ≡ reads (group_of k)
inner_arity Int h = absurd (cc)
inner_arity BoolNode h = absurd (cc)
inner_arity Var h = absurd (cc)
inner_arity Local h = absurd (cc)
inner_arity Nil h = absurd (cc)
inner_arity SetConst h = absurd (cc)
inner_arity SetVar h = absurd (cc)
inner_arity SetLocal h = absurd (cc)
inner_arity _ h = refl

pub inner_by : (k : NodeKind) (g : Group) → group_of k ≡ g → is_inner_group g ≡ true → is_inner k ≡ true
inner_by k g h i = ap is_inner_group h ∙ i

pub arity_by : (k : NodeKind) (g : Group) → group_of k ≡ g → is_inner_group g ≡ true → arity k ≡ reads g
arity_by k g h i = inner_arity k (inner_by k g h i) ∙ ap reads h

pub taken : (k : NodeKind) (m : ℕ) (is : List ℕ) → arity k ≡ m → take (arity k) is ≡ take m is
taken k m is h = ap (λ j. take j is) h

-- ---- what a node means, and its bounds

pub node_means : (es : List Entry) (id : ℕ) (k : NodeKind) (is : List ℕ) → IsArena es → (n : IsNode es id k is) (v : Values) → term v es id ≡ kind_term v n.there k (map (term v es) is)
unfolding terms
node_means es id k is a n v =
    unroll (node_term v) es id n.there n.stands (a.ordered id n.there n.stands)
    ∙ ap (λ js. kind_term v n.there n.there.node.kind (map (term v es) js)) n.kids
    ∙ ap (λ j. kind_term v n.there j (map (term v es) is)) n.kind

pub node_bounds : (es : List Entry) (id : ℕ) (k : NodeKind) (is : List ℕ) → IsArena es → (n : IsNode es id k is) → extent es id ≡ kind_extent n.there k (map (extent es) is)
unfolding extents
node_bounds es id k is a n =
    unroll node_extent es id n.there n.stands (a.ordered id n.there n.stands)
    ∙ ap (λ js. kind_extent n.there n.there.node.kind (map (extent es) js)) n.kids
    ∙ ap (λ j. kind_extent n.there j (map (extent es) is)) n.kind

pub node_below : (es : List Entry) (id : ℕ) (k : NodeKind) (is : List ℕ) → IsArena es → (n : IsNode es id k is) → AllBelow id is
node_below es id k is a n = subst (λ js. AllBelow id js) n.kids (a.ordered id n.there n.stands)

pub node_in : (es : List Entry) (id : ℕ) (k : NodeKind) (is : List ℕ) → IsNode es id k is → id < length es
node_in es id k is n = get-below es id n.there n.stands

pub node_some : (es : List Entry) (id : ℕ) (k : NodeKind) (is : List ℕ) → IsArena es → (n : IsNode es id k is) → IsSome (kind_extent n.there k (map (extent es) is))
node_some es id k is a n = subst (λ (x : Known). IsSome x) (node_bounds es id k is a n) (a.bounded id n.there n.stands)

-- nodes of one kind over children of the same bounds have the same bounds
pub like_bounds : (es : List Entry) (s t : ℕ) (k : NodeKind) (is js : List ℕ) → IsArena es → is_inner k ≡ true → IsNode es s k is → IsNode es t k js → map (extent es) js ≡ map (extent es) is → extent es t ≡ extent es s
like_bounds es s t k is js a inner m n h =
    node_bounds es t k js a n ∙ inner_extent n.there m.there k (map (extent es) js) inner ∙ ap (kind_extent m.there k) h ∙ sym (node_bounds es s k is a m)

pub node_as : (es : List Entry) (id : ℕ) (k : NodeKind) (is js : List ℕ) → is ≡ js → IsNode es id k is → IsNode es id k js
node_as es id k is js h n = record { there = n.there; stands = n.stands; kind = n.kind; kids = n.kids ∙ h }

-- the node that a call looked up
pub node_of : (es : List Entry) (id : ℕ) (n : Node) → option_map (λ e. e.node) (slice_get es id) ≡ Some n → IsNode es id n.kind (children n)
node_of es id n h = by (slice_get es id) refl h
  where
    by : (o : Option Entry) → slice_get es id ≡ o → option_map (λ e. e.node) o ≡ Some n → IsNode es id n.kind (children n)
    by None g m = absurd (cc)
    by (Some e) g m = let same : e.node ≡ n = cc in record { there = e; stands = g; kind = ap (λ (x : Node). x.kind) same; kids = ap children same }

-- ---- total nodes

abbrev pub AreTotal : List Entry → List ℕ → Type 0
AreTotal es [] = Unit {0}
AreTotal es (i ∷ is) = IsTotal es i × AreTotal es is

kid_total : (es : List Entry) (is : List ℕ) (k i : ℕ) → AreTotal es is → slice_get is k ≡ Some i → IsTotal es i
kid_total es [] k i s h = absurd (cc)
kid_total es (j ∷ is) zero i s h = let same : j ≡ i = cc in subst (IsTotal es) same s.0
kid_total es (j ∷ is) (suc k) i s h = kid_total es is k i s.1 h

pub node_total : (es : List Entry) (id : ℕ) (k : NodeKind) (is : List ℕ) (n : IsNode es id k is) → AreTotal es is → ((v : Values) → AreInBounds es v → IsSome (term v es id)) → IsTotal es id
node_total es id k is n s t = is_total id n.there n.stands t (λ j i h. kid_total es is j i s (ap (λ js. slice_get js j) (sym n.kids) ∙ h))

pub total_in : (es : List Entry) (id : ℕ) → IsTotal es id → id < length es
total_in es id (is_total i e h t kids) = get-below es i e h

pub total_some : (es : List Entry) (id : ℕ) → IsTotal es id → (v : Values) → AreInBounds es v → IsSome (term v es id)
total_some es id (is_total i e h t kids) = t

-- ---- an arena that goes on

pub extends_same : (es : List Entry) → Extends es es
extends_same es = record { grew = grew_same es; frees = λ id e h f. get-below es id e h }

pub extends_both : (xs ys zs : List Entry) → Extends xs ys → Extends ys zs → Extends xs zs
extends_both xs ys zs f g = record {
  grew = grew_both f.grew g.grew;
  frees = λ id e h k. let below = g.frees id e h k in f.frees id e (sym (g.grew.same id below) ∙ h) k;
}

pub below_later : (old new : List Entry) (i : ℕ) → Grew old new → i < length old → i < length new
below_later old new i g h = omega (arith, h, g.longer)

pub node_later : (old new : List Entry) (id : ℕ) (k : NodeKind) (is : List ℕ) → Grew old new → IsNode old id k is → IsNode new id k is
node_later old new id k is g n = record { there = n.there; stands = g.same id (node_in old id k is n) ∙ n.stands; kind = n.kind; kids = n.kids }

pub bounds_before : (old new : List Entry) (v : Values) → Grew old new → AreInBounds new v → AreInBounds old v
bounds_before old new v g b = λ id e h f.
    let below = get-below old id e h in
    subst (λ (x : Known). Lies x (term v old id)) (g.extents id below) (subst (λ (t : Term). Lies (extent new id) t) (g.terms v id below) (b id e (g.same id below ∙ h) f))

pub total_later : (old new : List Entry) (id : ℕ) → Grew old new → IsTotal old id → IsTotal new id
total_later old new id g (is_total i e h t kids) =
    let below = get-below old i e h in
    is_total i e (g.same i below ∙ h) (λ v b. subst (λ (x : Term). IsSome x) (sym (g.terms v i below)) (t v (bounds_before old new v g b))) (λ k j m. total_later old new j g (kids k j m))

-- an id with bounds is in the arena
some_clash : {A : Type 0} (x : Known) → x ≡ None → IsSome x → A
some_clash None h k = absurd (cc)
some_clash (Some e) h k = absurd (cc)

pub extent_in : (es : List Entry) (id : ℕ) (x : Known) → IsSome x → extent es id ≡ x → id < length es
unfolding extents
extent_in es id x s h = elim (cases_lt id (length es)) [
  | inl l ↦ l
  | inr g ↦ some_clash x (sym h ∙ at-past node_extent es id g) s
]

pub truth_in : (es : List Entry) (id : ℕ) → IsTruth es id → id < length es
truth_in es id t = extent_in es id (Some (truth t.ends)) refl t.is

pub truth_later : (old new : List Entry) (id : ℕ) → Grew old new → IsTruth old id → IsTruth new id
truth_later old new id g t = record { ends = t.ends; is = g.extents id (truth_in old id t) ∙ t.is }

pub says_at_later : (old new : List Entry) (d : ℕ) (b : Values → Bool) → Grew old new → SaysAt old d b → SaysAt new d b
says_at_later old new d b g h = record {
  truth = truth_later old new d g h.truth;
  total = total_later old new d g h.total;
  is = λ v i. g.terms v d (total_in old d h.total) ∙ h.is v (bounds_before old new v g i);
}

pub says_later : (old new : List Entry) (f : Option ℕ) (b : Values → Bool) → Grew old new → Says old f b → Says new f b
says_later old new None b g h = λ v i. h v (bounds_before old new v g i)
says_later old new (Some d) b g h = says_at_later old new d b g h

pub has_later : (old new : List Entry) (id : ℕ) (x : Known) (w : Values → Val) → Grew old new → Has old id x w → Has new id x w
has_later old new id x w g h =
    let below = total_in old id h.total in
    record {
      total = total_later old new id g h.total;
      bounds = g.extents id below ∙ h.bounds;
      is = λ v i. g.terms v id below ∙ h.is v (bounds_before old new v g i);
    }

pub part_later : (old new : List Entry) (id : ℕ) (p : Part) → Grew old new → IsArena old → id < length old → IsPart old id p → IsPart new id p
part_later old new id p g a below h =
    let same = g.extents id below in
    record {
      holds = h.holds;
      value = h.value;
      flag = says_later old new p.flag h.holds g h.flag;
      kept = subst (λ (x : Known). Has new p.term x h.value) (sym same) (has_later old new p.term (extent old id) h.value g h.kept);
      is = λ v i. g.terms v id below ∙ h.is v (bounds_before old new v g i);
      open_ = λ d m. subst (λ (x : Known). IsOpen x) (sym same) (h.open_ d m);
      told = subst (λ (x : Known). Tells x p.len) (sym same) h.told;
      counts = λ v i. h.counts v (bounds_before old new v g i);
      elements = kept_count old new id p.len g a below h.elements;
      own = λ n. h.own (told_before old new id g a below n);
    }
