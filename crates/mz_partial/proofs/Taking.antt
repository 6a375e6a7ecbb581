-- A node whose children's parts are known, and the parts that the calls give.
use Rattle.std.proofs.Common.{◌≡◌, ℕ, zero, suc, ◌<◌, List, [], ◌∷◌, length, map, take, ℤ, pos, option_map, Bool, true, false, ◌&&◌, cond, Option, Some, None, IsSome, slice_get, refl, sym, ap, subst, ◌∙◌, arith}
use Rattle.std.specs.Option.{option_and_then}
use Rattle.std.specs.Ordering.{int_eq}
use Rattle.mz_interval.specs.Ends.{Ends}
use Rattle.mz_arena.specs.declared.node.Node.{Node}
use Rattle.mz_arena.specs.declared.node.NodeKind.{NodeKind}
use Rattle.mz_arena.specs.declared.node.NodeKind.TheVariants.{Int, Bool as BoolNode, Var, Local, Nil, SetConst, SetVar, SetLocal, And, If, Guard}
use Rattle.mz_arena.specs.declared.node.Sort.{Sort}
use Rattle.mz_arena.specs.declared.node.Sort.TheVariants as sort
use Rattle.mz_arena.specs.Entries.{Entry, of_one, arity, children, AllBelow, is_free, is_set_const}
use Rattle.mz_arena.specs.Values.{Term, Values, is_true}
use Rattle.mz_arena.specs.Terms.{kind_term, term}
use Rattle.mz_arena.specs.Extents.{Known, whole, truth, subset, wholes, truths, subsets, empty as no_element, as_truth, as_subset, bool_extent, both_truths, marked, variable_extent, set_variable_extent, connective_extent, kind_extent, extent, sort_of, is_bit}
use Rattle.mz_arena.specs.Arenas.{IsArena, IsSetConst}
use Rattle.mz_arena.proofs.Growing.{grew_same}
use Rattle.mz_partial.specs.declared.part.Part.{Part}
use Rattle.mz_partial.specs.declared.group.Group.{Group}
use Rattle.mz_partial.specs.declared.group.Group.TheVariants as group
use Rattle.mz_partial.specs.Groups.{group_of, reads, is_inner_group, is_inner, is_partial}
use Rattle.mz_partial.specs.Costs.{cost_of, costs}
use Rattle.mz_partial.specs.Totals.{IsTotal, is_total, IsTruth, Tells, Counts, IsPart, Parted}
use Rattle.mz_partial.specs.Nodes.{IsNode, Placed, MayRemake, Remade, Takes, three}
use Rattle.mz_partial.specs.Calls.{Joins, Conjoins, Reads, Chooses}
use Rattle.mz_partial.proofs.Standing.{inner_by, arity_by, taken, node_as, node_below, node_in, node_some, node_means, node_bounds, node_total, node_later, extends_same, extends_both, part_later, truth_later}
use Rattle.mz_partial.proofs.ByKind.{HasTruth, connective_truths, reading_truth, choice_kind, guard_kind, choice_truth, guard_truth, connective_open}
use Rattle.mz_partial.proofs.Costing.{group_cost, node_cost}
use Rattle.mz_partial.proofs.Saying.{some_is, and_says, part_says}
use Rattle.mz_partial.proofs.Told.{kid_told, guard_untold, leaf_elements}
use Rattle.mz_partial.proofs.Partwise.{value_or, some_or, pair_like, one_part, two_part, test_part, connective_part, reading_part, choice_part, guard_part, guard_truth_part}

-- ---- the children of a node of a group

pub record OneKid (es : List Entry) (memo : List Part) (id : ℕ) (n : Node) : Type 0 where
  pub in_memo : n.a < length memo
  pub first : n.a < length es
  pub place : id < length es
  pub node : IsNode es id n.kind (n.a ∷ [])

pub takes_one : (es : List Entry) (memo : List Part) (id : ℕ) (n : Node) (g : Group) → Takes es memo id n g → is_inner_group g ≡ true → reads g ≡ 1 → OneKid es memo id n
takes_one es memo id n g t i r =
    let m = node_as es id n.kind (children n) (n.a ∷ []) (taken n.kind 1 (three n.a n.b n.c) (arity_by n.kind g t.kind i ∙ r)) t.node in
    let k : AllBelow id (n.a ∷ []) = node_below es id n.kind (n.a ∷ []) t.arena m in
    let place = node_in es id n.kind (n.a ∷ []) m in
    record { in_memo = omega (arith, k.0, t.reach); first = omega (arith, k.0, place); place = place; node = m }

pub record TwoKids (es : List Entry) (memo : List Part) (id : ℕ) (n : Node) : Type 0 where
  pub in_memo : n.a < length memo
  pub next_in_memo : n.b < length memo
  pub first : n.a < length es
  pub second : n.b < length es
  pub place : id < length es
  pub node : IsNode es id n.kind (n.a ∷ n.b ∷ [])

pub takes_two : (es : List Entry) (memo : List Part) (id : ℕ) (n : Node) (g : Group) → Takes es memo id n g → is_inner_group g ≡ true → reads g ≡ 2 → TwoKids es memo id n
takes_two es memo id n g t i r =
    let m = node_as es id n.kind (children n) (n.a ∷ n.b ∷ []) (taken n.kind 2 (three n.a n.b n.c) (arity_by n.kind g t.kind i ∙ r)) t.node in
    let k : AllBelow id (n.a ∷ n.b ∷ []) = node_below es id n.kind (n.a ∷ n.b ∷ []) t.arena m in
    let place = node_in es id n.kind (n.a ∷ n.b ∷ []) m in
    record { in_memo = omega (arith, k.0, t.reach); next_in_memo = omega (arith, k.1.0, t.reach); first = omega (arith, k.0, place); second = omega (arith, k.1.0, place); place = place; node = m }

pub record ThreeKids (es : List Entry) (memo : List Part) (id : ℕ) (n : Node) : Type 0 where
  pub in_memo : n.a < length memo
  pub next_in_memo : n.b < length memo
  pub last_in_memo : n.c < length memo
  pub first : n.a < length es
  pub second : n.b < length es
  pub third : n.c < length es
  pub place : id < length es
  pub node : IsNode es id n.kind (three n.a n.b n.c)

pub takes_three : (es : List Entry) (memo : List Part) (id : ℕ) (n : Node) (g : Group) → Takes es memo id n g → is_inner_group g ≡ true → reads g ≡ 3 → ThreeKids es memo id n
takes_three es memo id n g t i r =
    let m = node_as es id n.kind (children n) (three n.a n.b n.c) (taken n.kind 3 (three n.a n.b n.c) (arity_by n.kind g t.kind i ∙ r)) t.node in
    let k : AllBelow id (three n.a n.b n.c) = node_below es id n.kind (three n.a n.b n.c) t.arena m in
    let place = node_in es id n.kind (three n.a n.b n.c) m in
    record { in_memo = omega (arith, k.0, t.reach); next_in_memo = omega (arith, k.1.0, t.reach); last_in_memo = omega (arith, k.1.1.0, t.reach); first = omega (arith, k.0, place); second = omega (arith, k.1.0, place); third = omega (arith, k.1.1.0, place); place = place; node = m }

-- ---- other children of the same bounds

may_by : (es : List Entry) (id : ℕ) (n : Node) (m : ℕ) (is : List ℕ) → IsArena es → IsNode es id n.kind (children n) → is_inner n.kind ≡ true → arity n.kind ≡ m → AllBelow (length es) (take m is) → map (extent es) (take m is) ≡ map (extent es) (take m (three n.a n.b n.c)) → MayRemake es id n (take (arity n.kind) is)
may_by es id n m is a h i r below same = subst (λ j. MayRemake es id n (take j is)) (sym r) (record {
  arena = a;
  node = h;
  inner = i;
  below = below;
  bounds = same ∙ ap (λ j. map (extent es) (take j (three n.a n.b n.c))) (sym r);
})

pub may_one : (es : List Entry) (id : ℕ) (n : Node) (g : Group) (s : ℕ) → IsArena es → IsNode es id n.kind (children n) → group_of n.kind ≡ g → is_inner_group g ≡ true → reads g ≡ 1 → s < length es → extent es s ≡ extent es n.a → MayRemake es id n (take (arity n.kind) (three s n.b n.c))
may_one es id n g s a h k i r ls hs = may_by es id n 1 (three s n.b n.c) a h (inner_by n.kind g k i) (arity_by n.kind g k i ∙ r) (ls, tt) (ap (λ (x : Known). x ∷ []) hs)

pub may_two : (es : List Entry) (id : ℕ) (n : Node) (g : Group) (s t : ℕ) → IsArena es → IsNode es id n.kind (children n) → group_of n.kind ≡ g → is_inner_group g ≡ true → reads g ≡ 2 → s < length es → t < length es → extent es s ≡ extent es n.a → extent es t ≡ extent es n.b → MayRemake es id n (take (arity n.kind) (three s t n.c))
may_two es id n g s t a h k i r ls lt hs ht = may_by es id n 2 (three s t n.c) a h (inner_by n.kind g k i) (arity_by n.kind g k i ∙ r) (ls, (lt, tt)) (pair_like es n.a n.b s t hs ht)

pub may_three : (es : List Entry) (id : ℕ) (n : Node) (g : Group) (s t u : ℕ) → IsArena es → IsNode es id n.kind (children n) → group_of n.kind ≡ g → is_inner_group g ≡ true → reads g ≡ 3 → s < length es → t < length es → u < length es → extent es s ≡ extent es n.a → extent es t ≡ extent es n.b → extent es u ≡ extent es n.c → MayRemake es id n (take (arity n.kind) (three s t u))
may_three es id n g s t u a h k i r ls lt lu hs ht hu = may_by es id n 3 (three s t u) a h (inner_by n.kind g k i) (arity_by n.kind g k i ∙ r) (ls, (lt, (lu, tt))) (ap (λ (x : Known). x ∷ extent es t ∷ extent es u ∷ []) hs ∙ ap (λ xs. extent es n.a ∷ xs) (pair_like es n.b n.c t u ht hu))

pub remade_as : (old new : List Entry) (id : ℕ) (n : Node) (is : List ℕ) (t m : ℕ) (g : Group) → group_of n.kind ≡ g → is_inner_group g ≡ true → reads g ≡ m → Remade old new id n is t → IsNode new t n.kind (take m is)
remade_as old new id n is t m g k i r h = node_as new t n.kind (take (arity n.kind) is) (take m is) (taken n.kind m is (arity_by n.kind g k i ∙ r)) h.node

-- ---- leaves

only_kid : (es : List Entry) (a j i : ℕ) → IsTotal es a → slice_get (a ∷ []) j ≡ Some i → IsTotal es i
only_kid es a zero i t m = let same : a ≡ i = cc in subst (IsTotal es) same t
only_kid es a (suc j) i t m = absurd (cc)

leaf_kid : (es : List Entry) (k : NodeKind) (a b c j i : ℕ) → group_of k ≡ group.Leaf → (is_free k ≡ true → IsTotal es a) → slice_get (take (arity k) (three a b c)) j ≡ Some i → IsTotal es i
leaf_kid es Int a b c j i g h m = absurd (cc)
leaf_kid es BoolNode a b c j i g h m = absurd (cc)
leaf_kid es Nil a b c j i g h m = absurd (cc)
leaf_kid es SetConst a b c j i g h m = absurd (cc)
leaf_kid es Var a b c j i g h m = only_kid es a j i (h refl) m
leaf_kid es Local a b c j i g h m = only_kid es a j i (h refl) m
leaf_kid es SetVar a b c j i g h m = only_kid es a j i (h refl) m
leaf_kid es SetLocal a b c j i g h m = only_kid es a j i (h refl) m
leaf_kid es _ a b c j i g h m = absurd (cc)

leaf_some : (v : Values) (e : Entry) (k : NodeKind) (xs : List Term) → group_of k ≡ group.Leaf → IsSome (kind_term v e k xs)
leaf_some v e Int xs g = refl
leaf_some v e BoolNode xs g = refl
leaf_some v e Nil xs g = refl
leaf_some v e SetConst xs g = refl
leaf_some v e Var xs g = refl
leaf_some v e Local xs g = refl
leaf_some v e SetVar xs g = refl
leaf_some v e SetLocal xs g = refl
leaf_some v e _ xs g = absurd (cc)

leaf_counts : (v : Values) (e : Entry) (k : NodeKind) (xs : List Term) → group_of k ≡ group.Leaf → Counts (value_or (kind_term v e k xs)) 0
leaf_counts v e Int xs g = tt
leaf_counts v e BoolNode xs g = tt
leaf_counts v e Nil xs g = refl
leaf_counts v e SetConst xs g = tt
leaf_counts v e Var xs g = tt
leaf_counts v e Local xs g = tt
leaf_counts v e SetVar xs g = tt
leaf_counts v e SetLocal xs g = tt
leaf_counts v e _ xs g = absurd (cc)

limit_tells : (o : Option Ends) → Tells (option_map whole o) 0
limit_tells None = tt
limit_tells (Some e) = tt

then_tells : {A : Type 0} (o : Option A) (f : A → Known) → ((a : A) → Tells (f a) 0) → Tells (option_and_then f o) 0
then_tells None f h = tt
then_tells (Some a) f h = h a

bool_tells : (n : ℤ) → Tells (bool_extent n) 0
unfolding bool_extent
bool_tells n = by (is_bit n)
  where
    by : (b : Bool) → Tells (cond b (Some (truth (n, n))) None) 0
    by true = tt
    by false = tt

both_tells : (e : Ends) → Tells (both_truths e) 0
both_tells e = by (int_eq e.0 (pos 0) && int_eq e.1 (pos 1))
  where
    by : (b : Bool) → Tells (cond b (Some (truth e)) None) 0
    by true = tt
    by false = tt

marked_tells : (m : ℕ) (e : Ends) → Tells (marked m e) 0
marked_tells zero e = limit_tells _
marked_tells (suc zero) e = both_tells e
marked_tells (suc (suc m)) e = tt

variable_tells : (m : ℕ) (xs : List Known) → Tells (of_one xs (variable_extent m)) 0
unfolding variable_extent
variable_tells m [] = tt
variable_tells m (x ∷ []) = then_tells (as_subset x) _ (λ u. marked_tells m _)
variable_tells m (x ∷ y ∷ xs) = tt

set_variable_tells : (xs : List Known) → Tells (of_one xs set_variable_extent) 0
unfolding set_variable_extent
set_variable_tells [] = tt
set_variable_tells (x ∷ []) = then_tells (as_subset x) _ (λ u. tt)
set_variable_tells (x ∷ y ∷ xs) = tt

leaf_tells : (e : Entry) (k : NodeKind) (xs : List Known) → group_of k ≡ group.Leaf → Tells (kind_extent e k xs) 0
leaf_tells e Int xs g = limit_tells _
leaf_tells e BoolNode xs g = bool_tells e.node.number
leaf_tells e Nil xs g = refl
leaf_tells e SetConst xs g = tt
leaf_tells e Var xs g = variable_tells e.node.c xs
leaf_tells e Local xs g = variable_tells e.node.c xs
leaf_tells e SetVar xs g = set_variable_tells xs
leaf_tells e SetLocal xs g = set_variable_tells xs
leaf_tells e _ xs g = absurd (cc)

const_kind : (k : NodeKind) → is_set_const k ≡ true → k ≡ SetConst
const_kind SetConst h = refl
const_kind _ h = absurd (cc)

const_total : (es : List Entry) (i : ℕ) → IsArena es → IsSetConst es i → IsTotal es i
const_total es i a c =
    let kind = const_kind c.there.node.kind c.is in
    let n : IsNode es i SetConst [] = record { there = c.there; stands = c.stands; kind = kind; kids = ap (λ k. take (arity k) (three c.there.node.a c.there.node.b c.there.node.c)) kind } in
    node_total es i SetConst [] n tt (λ v b. some_is (term v es i) _ (node_means es i SetConst [] a n v))

pub leaf_part : (es : List Entry) (id : ℕ) (k : NodeKind) (is : List ℕ) → IsArena es → group_of k ≡ group.Leaf → IsNode es id k is → IsPart es id (record { flag = None; term = id; len = 0 })
leaf_part es id k is a g n =
    let e = n.there in
    let leaf : group_of e.node.kind ≡ group.Leaf = ap group_of n.kind ∙ g in
    let some : (v : Values) → IsSome (term v es id) = λ v. subst (λ (x : Term). IsSome x) (sym (node_means es id k is a n v)) (leaf_some v e k (map (term v es) is) g) in
    record {
      holds = λ v. true;
      value = λ v. value_or (term v es id);
      flag = λ v b. refl;
      kept = record {
        total = is_total id e n.stands (λ v b. some v) (λ j i m. leaf_kid es e.node.kind e.node.a e.node.b e.node.c j i leaf (λ f. const_total es e.node.a a (a.domains id e n.stands f).const) m);
        bounds = refl;
        is = λ v b. some_or (term v es id) (some v);
      };
      is = λ v b. some_or (term v es id) (some v);
      open_ = λ d h. absurd (cc);
      told = subst (λ (x : Known). Tells x 0) (sym (node_bounds es id k is a n)) (leaf_tells e k (map (extent es) is) g);
      counts = λ v b. subst (λ (x : Term). Counts (value_or x) 0) (sym (node_means es id k is a n v)) (leaf_counts v e k (map (term v es) is) g);
      elements = λ j l. leaf_elements es id j e n.stands leaf l;
      own = λ w. (refl, refl);
    }

pub leaf_parted : (es : List Entry) (memo : List Part) (id : ℕ) (n : Node) → Takes es memo id n group.Leaf → Parted es es id (record { flag = None; term = id; len = 0 })
leaf_parted es memo id n t = record { same = λ w. refl; cost = λ e there. omega arith; extends = extends_same es; arena = t.arena; part = leaf_part es id n.kind (children n) t.arena t.kind t.node }

-- ---- one child, two children

pub one_parted : (old new : List Entry) (memo : List Part) (id : ℕ) (n : Node) (p : Part) (t : ℕ) → Takes old memo id n group.One → slice_get memo n.a ≡ Some p → Remade old new id n (three p.term n.b n.c) t → Parted old new id (record { flag = p.flag; term = t; len = 0 })
one_parted old new memo id n p t h hp m =
    let k = takes_one old memo id n group.One h refl refl in
    let g = m.extends.grew in
    record {
      same = λ w. let o = (h.parts n.a p hp).own (kid_told old id n.kind (n.a ∷ []) k.node w 0 n.a refl) in (m.own (ap (λ i. three i n.b n.c) o.1)).1;
      cost = node_cost old id n.kind (n.a ∷ []) (costs new) (costs old) k.node (omega (arith, m.cost, group_cost n.kind group.One h.kind));
      extends = m.extends;
      arena = m.arena;
      part = one_part new id n.a n.kind p t m.arena h.kind (node_later old new id n.kind (n.a ∷ []) g k.node) (remade_as old new id n (three p.term n.b n.c) t 1 group.One h.kind refl refl m)
          (part_later old new n.a p g h.arena k.first (h.parts n.a p hp)) (λ e. (m.own (ap (λ i. three i n.b n.c) e)).0);
    }

pub two_parted : (old mid new : List Entry) (memo : List Part) (id : ℕ) (n : Node) (p q : Part) (f : Option ℕ) (t : ℕ) → Takes old memo id n group.Two → slice_get memo n.a ≡ Some p → slice_get memo n.b ≡ Some q → Remade old mid id n (three p.term q.term n.c) t → Joins mid new p.flag q.flag f → Parted old new id (record { flag = f; term = t; len = 0 })
two_parted old mid new memo id n p q f t h hp hq m j =
    let k = takes_two old memo id n group.Two h refl refl in
    let e = extends_both old mid new m.extends j.extends in
    let g = e.grew in
    let np = part_later old new n.a p g h.arena k.first (h.parts n.a p hp) in
    let nq = part_later old new n.b q g h.arena k.second (h.parts n.b q hq) in
    record {
      same = λ w. let o = (h.parts n.a p hp).own (kid_told old id n.kind (n.a ∷ n.b ∷ []) k.node w 0 n.a refl) in let r = (h.parts n.b q hq).own (kid_told old id n.kind (n.a ∷ n.b ∷ []) k.node w 1 n.b refl) in (j.own o.0 r.0).1 ∙ (m.own (ap (λ i. three i q.term n.c) o.1 ∙ ap (λ i. three n.a i n.c) r.1)).1;
      cost = node_cost old id n.kind (n.a ∷ n.b ∷ []) (costs new) (costs old) k.node (omega (arith, m.cost, j.cost, group_cost n.kind group.Two h.kind));
      extends = e;
      arena = j.arena;
      part = two_part new id n.a n.b n.kind p q f t j.arena h.kind (node_later old new id n.kind (n.a ∷ n.b ∷ []) g k.node)
          (node_later mid new t n.kind (p.term ∷ q.term ∷ []) j.extends.grew (remade_as old mid id n (three p.term q.term n.c) t 2 group.Two h.kind refl refl m))
          np nq (j.says new (grew_same new) j.arena np.holds nq.holds np.flag nq.flag) (λ x y. (j.own x y).0) (λ x y. (m.own (ap (λ i. three i q.term n.c) x ∙ ap (λ i. three n.a i n.c) y)).0);
    }

-- ---- comparisons, connectives and readings

pub test_parted : (old m1 m2 new : List Entry) (memo : List Part) (id : ℕ) (n : Node) (p q : Part) (f : Option ℕ) (h t : ℕ) → Takes old memo id n group.Test → slice_get memo n.a ≡ Some p → slice_get memo n.b ≡ Some q → Remade old m1 id n (three p.term q.term n.c) h → Joins m1 m2 p.flag q.flag f → Conjoins m2 new f h t → Parted old new id (record { flag = None; term = t; len = 0 })
test_parted old m1 m2 new memo id n p q f h t x hp hq m j c =
    let k = takes_two old memo id n group.Test x refl refl in
    let late = extends_both m1 m2 new j.extends c.extends in
    let e = extends_both old m1 new m.extends late in
    let g = e.grew in
    let np = part_later old new n.a p g x.arena k.first (x.parts n.a p hp) in
    let nq = part_later old new n.b q g x.arena k.second (x.parts n.b q hq) in
    record {
      same = λ w. let o = (x.parts n.a p hp).own (kid_told old id n.kind (n.a ∷ n.b ∷ []) k.node w 0 n.a refl) in let r = (x.parts n.b q hq).own (kid_told old id n.kind (n.a ∷ n.b ∷ []) k.node w 1 n.b refl) in (c.own (j.own o.0 r.0).0).1 ∙ (j.own o.0 r.0).1 ∙ (m.own (ap (λ i. three i q.term n.c) o.1 ∙ ap (λ i. three n.a i n.c) r.1)).1;
      cost = node_cost old id n.kind (n.a ∷ n.b ∷ []) (costs new) (costs old) k.node (omega (arith, m.cost, j.cost, c.cost, group_cost n.kind group.Test x.kind));
      extends = e;
      arena = c.arena;
      part = test_part new id n.a n.b n.kind p q f h t c.arena x.kind (node_later old new id n.kind (n.a ∷ n.b ∷ []) g k.node)
          (node_later m1 new h n.kind (p.term ∷ q.term ∷ []) late.grew (remade_as old m1 id n (three p.term q.term n.c) h 2 group.Test x.kind refl refl m))
          np nq
          (λ b s. c.says new (grew_same new) c.arena (λ v. np.holds v && nq.holds v) b (j.says new c.extends.grew c.arena np.holds nq.holds np.flag nq.flag) s)
          (λ s o. c.bounds new (grew_same new) c.arena s (λ d y. o))
          (λ a b. (c.own (j.own a b).0).0) (λ a b. (m.own (ap (λ i. three i q.term n.c) a ∙ ap (λ i. three n.a i n.c) b)).0);
    }

truth_at : (es : List Entry) (i : ℕ) → HasTruth (extent es i) → IsTruth es i
truth_at es i h = record { ends = h.ends; is = h.is }

-- the children of a connective are Booleans
pub record AreTruths (es : List Entry) (n : Node) : Type 0 where
  pub first : IsTruth es n.a
  pub second : IsTruth es n.b

pub connective_kids : (es : List Entry) (memo : List Part) (id : ℕ) (n : Node) → Takes es memo id n group.Connective → AreTruths es n
connective_kids es memo id n h =
    let k = takes_two es memo id n group.Connective h refl refl in
    let s = connective_truths k.node.there n.kind (extent es n.a) (extent es n.b) h.kind (node_some es id n.kind (n.a ∷ n.b ∷ []) h.arena k.node) in
    record { first = truth_at es n.a s.0; second = truth_at es n.b s.1 }

pub reading_kid : (es : List Entry) (memo : List Part) (id : ℕ) (n : Node) → Takes es memo id n group.Reading → IsTruth es n.a
reading_kid es memo id n h =
    let k = takes_one es memo id n group.Reading h refl refl in
    truth_at es n.a (reading_truth k.node.there n.kind (extent es n.a) h.kind (node_some es id n.kind (n.a ∷ []) h.arena k.node))

pub kind_as : (es : List Entry) (id : ℕ) (j k : NodeKind) (is : List ℕ) → j ≡ k → IsNode es id j is → IsNode es id k is
kind_as es id j k is h n = record { there = n.there; stands = n.stands; kind = n.kind ∙ h; kids = n.kids }

pub choice_kid : (es : List Entry) (memo : List Part) (id : ℕ) (n : Node) → Takes es memo id n group.Choice → IsTruth es n.a
choice_kid es memo id n h =
    let k = takes_three es memo id n group.Choice h refl refl in
    let m = kind_as es id n.kind If (three n.a n.b n.c) (choice_kind n.kind h.kind) k.node in
    truth_at es n.a (choice_truth (extent es n.a) (extent es n.b) (extent es n.c) (node_some es id If (three n.a n.b n.c) h.arena m))

pub guard_kid : (es : List Entry) (memo : List Part) (id : ℕ) (n : Node) → Takes es memo id n group.Guard → IsTruth es n.a
guard_kid es memo id n h =
    let k = takes_two es memo id n group.Guard h refl refl in
    let m = kind_as es id n.kind Guard (n.a ∷ n.b ∷ []) (guard_kind n.kind h.kind) k.node in
    truth_at es n.a (guard_truth (extent es n.a) (extent es n.b) (node_some es id Guard (n.a ∷ n.b ∷ []) h.arena m))

pub connective_parted : (old m1 m2 new : List Entry) (memo : List Part) (id : ℕ) (n : Node) (p q : Part) (c d t : ℕ) → Takes old memo id n group.Connective → slice_get memo n.a ≡ Some p → slice_get memo n.b ≡ Some q → Reads old m1 n.a p c → Reads m1 m2 n.b q d → Remade m2 new id n (three c d n.c) t → Parted old new id (record { flag = None; term = t; len = 0 })
connective_parted old m1 m2 new memo id n p q c d t x hp hq rc rd m =
    let k = takes_two old memo id n group.Connective x refl refl in
    let kids = connective_kids old memo id n x in
    let late = extends_both m1 m2 new rd.extends m.extends in
    let e = extends_both old m1 new rc.extends late in
    let g = e.grew in
    let np = part_later old new n.a p g x.arena k.first (x.parts n.a p hp) in
    let nq = part_later old new n.b q g x.arena k.second (x.parts n.b q hq) in
    let ta = truth_later old new n.a g kids.first in
    let tb = truth_later old new n.b g kids.second in
    record {
      same = λ w. let o = (x.parts n.a p hp).own (kid_told old id n.kind (n.a ∷ n.b ∷ []) k.node w 0 n.a refl) in let r = (x.parts n.b q hq).own (kid_told old id n.kind (n.a ∷ n.b ∷ []) k.node w 1 n.b refl) in (m.own (ap (λ i. three i d n.c) ((rc.own o.0).0 ∙ o.1) ∙ ap (λ i. three n.a i n.c) ((rd.own r.0).0 ∙ r.1))).1 ∙ (rd.own r.0).1 ∙ (rc.own o.0).1;
      cost = node_cost old id n.kind (n.a ∷ n.b ∷ []) (costs new) (costs old) k.node (omega (arith, rc.cost, rd.cost, m.cost, group_cost n.kind group.Connective x.kind));
      extends = e;
      arena = m.arena;
      part = connective_part new id n.a n.b n.kind p q c d t m.arena x.kind (node_later old new id n.kind (n.a ∷ n.b ∷ []) g k.node)
          (remade_as m2 new id n (three c d n.c) t 2 group.Connective x.kind refl refl m)
          np nq ta tb (rc.says new late.grew m.arena np ta) (rd.says new m.extends.grew m.arena nq tb) (λ a. (rc.own a).0) (λ a. (rd.own a).0) (λ a b. (m.own (ap (λ i. three i d n.c) a ∙ ap (λ i. three n.a i n.c) b)).0);
    }

pub reading_parted : (old mid new : List Entry) (memo : List Part) (id : ℕ) (n : Node) (p : Part) (c t : ℕ) → Takes old memo id n group.Reading → slice_get memo n.a ≡ Some p → Reads old mid n.a p c → Remade mid new id n (three c n.b n.c) t → Parted old new id (record { flag = None; term = t; len = 0 })
reading_parted old mid new memo id n p c t x hp rc m =
    let k = takes_one old memo id n group.Reading x refl refl in
    let e = extends_both old mid new rc.extends m.extends in
    let g = e.grew in
    let np = part_later old new n.a p g x.arena k.first (x.parts n.a p hp) in
    let ta = truth_later old new n.a g (reading_kid old memo id n x) in
    record {
      same = λ w. let o = (x.parts n.a p hp).own (kid_told old id n.kind (n.a ∷ []) k.node w 0 n.a refl) in (m.own (ap (λ i. three i n.b n.c) ((rc.own o.0).0 ∙ o.1))).1 ∙ (rc.own o.0).1;
      cost = node_cost old id n.kind (n.a ∷ []) (costs new) (costs old) k.node (omega (arith, rc.cost, m.cost, group_cost n.kind group.Reading x.kind));
      extends = e;
      arena = m.arena;
      part = reading_part new id n.a n.kind p c t m.arena x.kind (node_later old new id n.kind (n.a ∷ []) g k.node) (remade_as mid new id n (three c n.b n.c) t 1 group.Reading x.kind refl refl m)
          np (rc.says new m.extends.grew m.arena np ta) (rc.bounds new m.extends.grew m.arena np ta) (λ a. (rc.own a).0) (λ a. (m.own (ap (λ i. three i n.b n.c) a)).0);
    }

-- ---- branches and guards

pub choice_parted : (old m1 m2 new : List Entry) (memo : List Part) (id : ℕ) (n : Node) (p q r : Part) (f : Option ℕ) (c t : ℕ) → Takes old memo id n group.Choice → slice_get memo n.a ≡ Some p → slice_get memo n.b ≡ Some q → slice_get memo n.c ≡ Some r → Reads old m1 n.a p c → Remade m1 m2 id n (three c q.term r.term) t → Chooses m2 new c q.flag r.flag f → Parted old new id (record { flag = f; term = t; len = 0 })
choice_parted old m1 m2 new memo id n p q r f c t x hp hq hr rc m o =
    let k = takes_three old memo id n group.Choice x refl refl in
    let kind = choice_kind n.kind x.kind in
    let late = extends_both m1 m2 new m.extends o.extends in
    let e = extends_both old m1 new rc.extends late in
    let g = e.grew in
    let np = part_later old new n.a p g x.arena k.first (x.parts n.a p hp) in
    let nq = part_later old new n.b q g x.arena k.second (x.parts n.b q hq) in
    let nr = part_later old new n.c r g x.arena k.third (x.parts n.c r hr) in
    let ta = truth_later old new n.a g (choice_kid old memo id n x) in
    let sc = rc.says new late.grew o.arena np ta in
    record {
      same = λ w. let y = (x.parts n.a p hp).own (kid_told old id n.kind (three n.a n.b n.c) k.node w 0 n.a refl) in let s = (x.parts n.b q hq).own (kid_told old id n.kind (three n.a n.b n.c) k.node w 1 n.b refl) in let u = (x.parts n.c r hr).own (kid_told old id n.kind (three n.a n.b n.c) k.node w 2 n.c refl) in (o.own s.0 u.0).1 ∙ (m.own (ap (λ i. three i q.term r.term) ((rc.own y.0).0 ∙ y.1) ∙ ap (λ i. three n.a i r.term) s.1 ∙ ap (λ i. three n.a n.b i) u.1)).1 ∙ (rc.own y.0).1;
      cost = node_cost old id n.kind (three n.a n.b n.c) (costs new) (costs old) k.node (omega (arith, rc.cost, m.cost, o.cost, group_cost n.kind group.Choice x.kind));
      extends = e;
      arena = o.arena;
      part = choice_part new id n.a n.b n.c p q r f c t o.arena
          (kind_as new id n.kind If (three n.a n.b n.c) kind (node_later old new id n.kind (three n.a n.b n.c) g k.node))
          (kind_as new t n.kind If (three c q.term r.term) kind (node_later m2 new t n.kind (three c q.term r.term) o.extends.grew (remade_as m1 m2 id n (three c q.term r.term) t 3 group.Choice x.kind refl refl m)))
          np nq nr sc (rc.bounds new late.grew o.arena np ta)
          (o.says new (grew_same new) o.arena (λ v. is_true (term v new n.a)) nq.holds nr.holds sc nq.flag nr.flag)
          (λ a. (rc.own a).0) (λ a b. (o.own a b).0) (λ a b d. (m.own (ap (λ i. three i q.term r.term) a ∙ ap (λ i. three n.a i r.term) b ∙ ap (λ i. three n.a n.b i) d)).0);
    }

-- of a sort that is no Boolean
no_truth : (x : Known) (s : Sort) → sort_of x ≡ Some s → (s ≡ sort.Boolean → ⊥) → as_truth x ≡ None
no_truth None s h other = refl
no_truth (Some (whole e)) s h other = refl
no_truth (Some (truth e)) s h other = let same : s ≡ sort.Boolean = cc in absurd (other same)
no_truth (Some (subset u)) s h other = refl
no_truth (Some (wholes es)) s h other = refl
no_truth (Some truths) s h other = refl
no_truth (Some (subsets us)) s h other = refl
no_truth (Some no_element) s h other = refl

pub sort_truth : (es : List Entry) (i : ℕ) → sort_of (extent es i) ≡ Some sort.Boolean → IsTruth es i
sort_truth es i h = by (extent es i) refl h
  where
    by : (x : Known) → extent es i ≡ x → sort_of x ≡ Some sort.Boolean → IsTruth es i
    by (Some (truth e)) e_is g = record { ends = e; is = e_is }
    by None e_is g = absurd (cc)
    by (Some (whole e)) e_is g = absurd (cc)
    by (Some (subset u)) e_is g = absurd (cc)
    by (Some (wholes us)) e_is g = absurd (cc)
    by (Some truths) e_is g = absurd (cc)
    by (Some (subsets us)) e_is g = absurd (cc)
    by (Some no_element) e_is g = absurd (cc)

pub guard_parted : (old m1 new : List Entry) (memo : List Part) (id : ℕ) (n : Node) (p q : Part) (f : Option ℕ) (c : ℕ) (s : Sort) → Takes old memo id n group.Guard → slice_get memo n.a ≡ Some p → slice_get memo n.b ≡ Some q → Reads old m1 n.a p c → Joins m1 new (Some c) q.flag f → sort_of (extent new n.b) ≡ Some s → (s ≡ sort.Boolean → ⊥) → Parted old new id (record { flag = f; term = q.term; len = 0 })
guard_parted old m1 new memo id n p q f c s x hp hq rc j sort other =
    let k = takes_two old memo id n group.Guard x refl refl in
    let e = extends_both old m1 new rc.extends j.extends in
    let g = e.grew in
    let np = part_later old new n.a p g x.arena k.first (x.parts n.a p hp) in
    let nq = part_later old new n.b q g x.arena k.second (x.parts n.b q hq) in
    let ta = truth_later old new n.a g (guard_kid old memo id n x) in
    record {
      same = λ w. guard_untold old id (n.a ∷ n.b ∷ []) (kind_as old id n.kind Guard (n.a ∷ n.b ∷ []) (guard_kind n.kind x.kind) k.node) w;
      cost = node_cost old id n.kind (n.a ∷ n.b ∷ []) (costs new) (costs old) k.node (omega (arith, rc.cost, j.cost, group_cost n.kind group.Guard x.kind, ap cost_of (guard_kind n.kind x.kind)));
      extends = e;
      arena = j.arena;
      part = guard_part new id n.a n.b q f j.arena (kind_as new id n.kind Guard (n.a ∷ n.b ∷ []) (guard_kind n.kind x.kind) (node_later old new id n.kind (n.a ∷ n.b ∷ []) g k.node)) nq
          (no_truth (extent new n.b) s sort other)
          (j.says new (grew_same new) j.arena (λ v. is_true (term v new n.a)) nq.holds (rc.says new j.extends.grew j.arena np ta) nq.flag);
    }

pub guard_truth_parted : (old m1 m2 new : List Entry) (memo : List Part) (id : ℕ) (n : Node) (p q : Part) (f : Option ℕ) (c t : ℕ) → Takes old memo id n group.Guard → slice_get memo n.a ≡ Some p → slice_get memo n.b ≡ Some q → Reads old m1 n.a p c → Joins m1 m2 (Some c) q.flag f → sort_of (extent m2 n.b) ≡ Some sort.Boolean → Placed m2 new And (c ∷ q.term ∷ []) t → Parted old new id (record { flag = f; term = t; len = 0 })
guard_truth_parted old m1 m2 new memo id n p q f c t x hp hq rc j sort m =
    let k = takes_two old memo id n group.Guard x refl refl in
    let late = extends_both m1 m2 new j.extends m.extends in
    let e = extends_both old m1 new rc.extends late in
    let g = e.grew in
    let np = part_later old new n.a p g x.arena k.first (x.parts n.a p hp) in
    let nq = part_later old new n.b q g x.arena k.second (x.parts n.b q hq) in
    let ta = truth_later old new n.a g (guard_kid old memo id n x) in
    let tb = truth_later m2 new n.b m.extends.grew (sort_truth m2 n.b sort) in
    let sc = rc.says new late.grew m.arena np ta in
    let sq = part_says new n.b q m.arena nq tb in
    record {
      same = λ w. guard_untold old id (n.a ∷ n.b ∷ []) (kind_as old id n.kind Guard (n.a ∷ n.b ∷ []) (guard_kind n.kind x.kind) k.node) w;
      cost = node_cost old id n.kind (n.a ∷ n.b ∷ []) (costs new) (costs old) k.node (omega (arith, rc.cost, j.cost, m.cost, group_cost n.kind group.Guard x.kind, ap cost_of (guard_kind n.kind x.kind)));
      extends = e;
      arena = m.arena;
      part = guard_truth_part new id n.a n.b q f t m.arena (kind_as new id n.kind Guard (n.a ∷ n.b ∷ []) (guard_kind n.kind x.kind) (node_later old new id n.kind (n.a ∷ n.b ∷ []) g k.node)) nq tb
          (and_says new c q.term t (λ v. is_true (term v new n.a)) (λ v. is_true (Some (nq.value v))) m.arena m.node sc sq)
          (node_bounds new t And (c ∷ q.term ∷ []) m.arena m.node ∙ ap (λ (y : Known). connective_extent y (extent new q.term)) sc.truth.is ∙ ap (connective_extent (Some (truth sc.truth.ends))) sq.truth.is ∙ connective_open sc.truth.ends sq.truth.ends)
          (j.says new m.extends.grew m.arena (λ v. is_true (term v new n.a)) nq.holds sc nq.flag);
    }
