-- The parts that the calls for lists, quotients and accesses give.
use Rattle.std.proofs.Common.{◌≡◌, ℕ, zero, suc, ◌+◌, ◌<◌, ℤ, pos, negsuc, ◌≤ℤ◌, ◌<ℤ◌, int_le, List, [], ◌∷◌, take, Bool, true, false, ◌&&◌, Option, Some, None, IsSome, slice_get, ◌⊎◌, inl, inr, refl, sym, ap, subst, ◌∙◌, arith}
use Rattle.std.specs.Int.{int_max}
use Rattle.std.proofs.lemmas.Int.{ints, clamps}
use Rattle.mz_interval.specs.Ends.{Ends, Encloses}
use Rattle.mz_operations.specs.Bounds as bounds
use Rattle.mz_arena.specs.declared.node.Node.{Node}
use Rattle.mz_arena.specs.declared.node.NodeKind.{NodeKind}
use Rattle.mz_arena.specs.declared.node.NodeKind.TheVariants.{Div, Mod, Min, Max, Access, Cons}
use Rattle.mz_arena.specs.Entries.{Entry, arity, children}
use Rattle.mz_arena.specs.Extents.{Known, whole, ends_in, extent}
use Rattle.mz_arena.proofs.Growing.{grew_same}
use Rattle.mz_partial.specs.declared.part.Part.{Part}
use Rattle.mz_partial.specs.declared.group.Group.TheVariants as group
use Rattle.mz_partial.specs.Groups.{group_of, is_partial}
use Rattle.mz_partial.specs.Costs.{costs}
use Rattle.mz_partial.specs.Told.{IsApart, AreInside, IsToldDefined}
use Rattle.mz_partial.specs.Totals.{IsPart, Parted}
use Rattle.mz_partial.specs.Nodes.{IsNode, IsPartialNode, MayRemake, Remade, Takes, three}
use Rattle.mz_partial.specs.Calls.{Joins, Tests, IsSafe, HasNoValue, IsPlaceIn, IsPlaceWithin, is_nonzero, is_place}
use Rattle.mz_partial.proofs.Standing.{node_some, node_later, extends_both, part_later, total_in}
use Rattle.mz_partial.proofs.ByKind.{HasWhole, cons_kind, access_kind, arith_second}
use Rattle.mz_partial.proofs.Costing.{group_cost, node_cost}
use Rattle.mz_partial.proofs.Elements.{cons_part, extreme_part, extreme_no_value}
use Rattle.mz_partial.proofs.Quotients.{number_or, divides, division_part, division_no_value}
use Rattle.mz_partial.proofs.Places.{access_index, access_part, access_no_value}
use Rattle.mz_partial.proofs.Told.{kid_told, extreme_told, division_told, access_told, apart_at, inside_at, nothing_untold, told_before}
use Rattle.mz_partial.proofs.Taking.{takes_one, takes_two, may_two, remade_as, kind_as}
use Rattle.mz_partial.proofs.Testing.{tested}

-- ---- partial kinds

extreme_partial : (k : NodeKind) → group_of k ≡ group.Extreme → is_partial k ≡ true
extreme_partial Min g = refl
extreme_partial Max g = refl
extreme_partial _ g = absurd (cc)

division_partial : (k : NodeKind) → group_of k ≡ group.Division → is_partial k ≡ true
division_partial Div g = refl
division_partial Mod g = refl
division_partial _ g = absurd (cc)

access_partial : (k : NodeKind) → group_of k ≡ group.Access → is_partial k ≡ true
access_partial Access g = refl
access_partial _ g = absurd (cc)

partial_node : (es : List Entry) (id : ℕ) (n : Node) → IsNode es id n.kind (children n) → is_partial n.kind ≡ true → (IsToldDefined es id → ⊥) → IsPartialNode es id
partial_node es id n m h u = record { there = m.there; stands = m.stands; partial = ap is_partial m.kind ∙ h; untold = u }

pub extreme_node : (es : List Entry) (memo : List Part) (id : ℕ) (n : Node) (p : Part) → Takes es memo id n group.Extreme → slice_get memo n.a ≡ Some p → p.len ≡ 0 → IsPartialNode es id
extreme_node es memo id n p h hp none =
    let k = takes_one es memo id n group.Extreme h refl refl in
    partial_node es id n h.node (extreme_partial n.kind h.kind) (λ w.
    let l = extreme_told es id n.a n.kind k.node h.kind w in
    absurd (omega (arith, none, (h.parts n.a p hp).elements (suc l.rest) l.elements)))

pub division_node : (es : List Entry) (memo : List Part) (id : ℕ) (n : Node) (e : Ends) → Takes es memo id n group.Division → extent es n.b ≡ Some (whole e) → e ≡ bounds.nothing → IsPartialNode es id
division_node es memo id n e h range none =
    let k = takes_two es memo id n group.Division h refl refl in
    partial_node es id n h.node (division_partial n.kind h.kind) (λ w. nothing_untold e none (apart_at es n.b e range (division_told es id n.a n.b n.kind k.node h.kind w)))

no_place : {A : Type 0} (e : Ends) (n : ℤ) → e.0 ≤ℤ e.1 → IsPlaceIn e n (pos 0) → AreInside n e → A
no_place e n o (inl x) i = absurd (omega (arith, ints, o, x, i.0))
no_place e n o (inr (inl x)) i = absurd (omega (arith, ints, o, x, i.1))
no_place e n o (inr (inr x)) i = absurd (omega (arith, ints, o, x, i.0, i.1))

access_inside : (es : List Entry) (memo : List Part) (id : ℕ) (n : Node) (q : Part) (e : Ends) → Takes es memo id n group.Access → slice_get memo n.b ≡ Some q → extent es n.a ≡ Some (whole e) → IsToldDefined es id → AreInside (pos q.len) e
access_inside es memo id n q e h hq range w =
    let k = takes_two es memo id n group.Access h refl refl in
    inside_at es n.a n.b q.len e range (h.parts n.b q hq).elements (access_told es id n.a n.b (kind_as es id n.kind Access (n.a ∷ n.b ∷ []) (access_kind n.kind h.kind) k.node) w)

pub access_node : (es : List Entry) (memo : List Part) (id : ℕ) (n : Node) (q : Part) (e : Ends) (k : ℤ) → Takes es memo id n group.Access → slice_get memo n.b ≡ Some q → extent es n.a ≡ Some (whole e) → e.0 ≤ℤ e.1 → IsPlaceIn e (pos q.len) k → k ≡ pos 0 → IsPartialNode es id
access_node es memo id n q e k h hq range order place zero_k =
    partial_node es id n h.node (access_partial n.kind h.kind) (λ w. no_place e (pos q.len) order (subst (λ j. IsPlaceIn e (pos q.len) j) zero_k place) (access_inside es memo id n q e h hq range w))

-- ---- lists

pub cons_parted : (old mid new : List Entry) (memo : List Part) (id : ℕ) (n : Node) (p q : Part) (f : Option ℕ) (t c : ℕ) → Takes old memo id n group.Cons → slice_get memo n.a ≡ Some p → slice_get memo n.b ≡ Some q → Remade old mid id n (three p.term q.term n.c) t → Joins mid new p.flag q.flag f → c ≡ q.len + 1 → Parted old new id (record { flag = f; term = t; len = c })
cons_parted old mid new memo id n p q f t c h hp hq m j count =
    let k = takes_two old memo id n group.Cons h refl refl in
    let kind = cons_kind n.kind h.kind in
    let e = extends_both old mid new m.extends j.extends in
    let g = e.grew in
    let np = part_later old new n.a p g h.arena k.first (h.parts n.a p hp) in
    let nq = part_later old new n.b q g h.arena k.second (h.parts n.b q hq) in
    record {
      same = λ w. let o = (h.parts n.a p hp).own (kid_told old id n.kind (n.a ∷ n.b ∷ []) k.node w 0 n.a refl) in let r = (h.parts n.b q hq).own (kid_told old id n.kind (n.a ∷ n.b ∷ []) k.node w 1 n.b refl) in (j.own o.0 r.0).1 ∙ (m.own (ap (λ i. three i q.term n.c) o.1 ∙ ap (λ i. three n.a i n.c) r.1)).1;
      cost = node_cost old id n.kind (n.a ∷ n.b ∷ []) (costs new) (costs old) k.node (omega (arith, m.cost, j.cost, group_cost n.kind group.Cons h.kind));
      extends = e;
      arena = j.arena;
      part = cons_part new id n.a n.b p q f t c j.arena (kind_as new id n.kind Cons (n.a ∷ n.b ∷ []) kind (node_later old new id n.kind (n.a ∷ n.b ∷ []) g k.node))
          (kind_as new t n.kind Cons (p.term ∷ q.term ∷ []) kind (node_later mid new t n.kind (p.term ∷ q.term ∷ []) j.extends.grew (remade_as old mid id n (three p.term q.term n.c) t 2 group.Cons h.kind refl refl m)))
          np nq (j.says new (grew_same new) j.arena np.holds nq.holds np.flag nq.flag) (λ x y. (j.own x y).0) (λ x y. (m.own (ap (λ i. three i q.term n.c) x ∙ ap (λ i. three n.a i n.c) y)).0) count;
    }

pub extreme_parted : (old new : List Entry) (memo : List Part) (id : ℕ) (n : Node) (p : Part) (t : ℕ) → Takes old memo id n group.Extreme → slice_get memo n.a ≡ Some p → Remade old new id n (three p.term n.b n.c) t → 0 < p.len → Parted old new id (record { flag = p.flag; term = t; len = 0 })
extreme_parted old new memo id n p t h hp m long =
    let k = takes_one old memo id n group.Extreme h refl refl in
    let g = m.extends.grew in
    record {
      same = λ w. (m.own (ap (λ i. three i n.b n.c) ((h.parts n.a p hp).own (kid_told old id n.kind (n.a ∷ []) k.node w 0 n.a refl)).1)).1;
      cost = node_cost old id n.kind (n.a ∷ []) (costs new) (costs old) k.node (omega (arith, m.cost, group_cost n.kind group.Extreme h.kind));
      extends = m.extends;
      arena = m.arena;
      part = extreme_part new id n.a n.kind p t m.arena h.kind (node_later old new id n.kind (n.a ∷ []) g k.node) (remade_as old new id n (three p.term n.b n.c) t 1 group.Extreme h.kind refl refl m)
          (part_later old new n.a p g h.arena k.first (h.parts n.a p hp)) long (λ e. (m.own (ap (λ i. three i n.b n.c) e)).0);
    }

pub extreme_never : (es : List Entry) (memo : List Part) (id : ℕ) (n : Node) (p : Part) → Takes es memo id n group.Extreme → slice_get memo n.a ≡ Some p → p.len ≡ 0 → HasNoValue es id
extreme_never es memo id n p h hp none =
    let k = takes_one es memo id n group.Extreme h refl refl in
    extreme_no_value es id n.a n.kind p h.arena h.kind k.node (h.parts n.a p hp) none

-- ---- the bounds of the operand that is tested

some_ends : {a b : Ends} → Some a ≡ Some b → a ≡ b
some_ends h = cc

-- an integer part's bounds, as the arena tells them
pub record IsRanged (es : List Entry) (i t : ℕ) (e : Ends) : Type 0 where
  pub is_whole : extent es i ≡ Some (whole e)
  pub term : extent es t ≡ Some (whole e)

ranged : (es : List Entry) (i : ℕ) (p : Part) (e : Ends) → IsPart es i p → HasWhole (extent es i) → ends_in (extent es p.term) ≡ Some e → IsRanged es i p.term e
ranged es i p e h w r =
    let same : w.ends ≡ e = some_ends (sym (ap ends_in (h.kept.bounds ∙ w.is)) ∙ r) in
    let here : extent es i ≡ Some (whole e) = w.is ∙ ap (λ f. Some (whole f)) same in
    record { is_whole = here; term = h.kept.bounds ∙ here }

pub has_ends : (es : List Entry) (i : ℕ) (p : Part) → IsPart es i p → HasWhole (extent es i) → IsSome (ends_in (extent es p.term))
has_ends es i p h w = subst (λ (x : Known). IsSome (ends_in x)) (sym (h.kept.bounds ∙ w.is)) refl

pub divisor_whole : (es : List Entry) (memo : List Part) (id : ℕ) (n : Node) → Takes es memo id n group.Division → HasWhole (extent es n.b)
divisor_whole es memo id n h =
    let k = takes_two es memo id n group.Division h refl refl in
    let d = divides n.kind h.kind in
    arith_second d.op (extent es n.a) (extent es n.b) (subst (λ (x : Known). IsSome x) (d.is.ends_are k.node.there (extent es n.a) (extent es n.b)) (node_some es id n.kind (n.a ∷ n.b ∷ []) h.arena k.node))

pub index_whole : (es : List Entry) (memo : List Part) (id : ℕ) (n : Node) → Takes es memo id n group.Access → HasWhole (extent es n.a)
index_whole es memo id n h =
    let k = takes_two es memo id n group.Access h refl refl in
    access_index (extent es n.a) (extent es n.b) (node_some es id Access (n.a ∷ n.b ∷ []) h.arena (kind_as es id n.kind Access (n.a ∷ n.b ∷ []) (access_kind n.kind h.kind) k.node))

pub divisor_range : (es : List Entry) (memo : List Part) (id : ℕ) (n : Node) (q : Part) (e : Ends) → Takes es memo id n group.Division → slice_get memo n.b ≡ Some q → ends_in (extent es q.term) ≡ Some e → IsRanged es n.b q.term e
divisor_range es memo id n q e h hq r = ranged es n.b q e (h.parts n.b q hq) (divisor_whole es memo id n h) r

pub index_range : (es : List Entry) (memo : List Part) (id : ℕ) (n : Node) (p : Part) (e : Ends) → Takes es memo id n group.Access → slice_get memo n.a ≡ Some p → ends_in (extent es p.term) ≡ Some e → IsRanged es n.a p.term e
index_range es memo id n p e h hp r = ranged es n.a p e (h.parts n.a p hp) (index_whole es memo id n h) r

-- no flag, the node itself, and nothing made
record IsOwn (old new : List Entry) (id : ℕ) (f : Option ℕ) (t : ℕ) : Type 0 where
  none : f ≡ None
  itself : t ≡ id
  same : new ≡ old

-- ---- quotients

pub division_parted : (old m1 m2 m3 m4 new : List Entry) (memo : List Part) (id : ℕ) (n : Node) (p q : Part) (test parts flag : Option ℕ) (w t : ℕ) (k : ℤ) (e : Ends) → Takes old memo id n group.Division → slice_get memo n.a ≡ Some p → slice_get memo n.b ≡ Some q → extent old n.b ≡ Some (whole e) → Encloses e k → is_nonzero k ≡ true → Tests 2 (IsApart e) old m1 q.term is_nonzero test → IsSafe m1 m2 q.term test k w → Remade m2 m3 id n (three p.term w n.c) t → Joins m3 m4 p.flag q.flag parts → Joins m4 new parts test flag → Parted old new id (record { flag = flag; term = t; len = 0 })
division_parted old m1 m2 m3 m4 new memo id n p q test parts flag w t k e h hp hq range enc pass ts sf m j1 j2 =
    let kids = takes_two old memo id n group.Division h refl refl in
    let x4 = extends_both m3 m4 new j1.extends j2.extends in
    let x3 = extends_both m2 m3 new m.extends x4 in
    let x2 = extends_both m1 m2 new sf.extends x3 in
    let x1 = extends_both old m1 new ts.extends x2 in
    let g = x1.grew in
    let np = part_later old new n.a p g h.arena kids.first (h.parts n.a p hp) in
    let u = tested 2 (IsApart e) old m1 m2 new n.b q is_nonzero test k w e h.arena kids.second (h.parts n.b q hq) range enc ts sf x3.grew j2.arena in
    let both = j1.says new j2.extends.grew j2.arena np.holds u.part.holds np.flag u.part.flag in
    let own : IsToldDefined old id → IsOwn old new id flag t = λ d.
    let o = (h.parts n.a p hp).own (kid_told old id n.kind (n.a ∷ n.b ∷ []) kids.node d 0 n.a refl) in
    let r = (h.parts n.b q hq).own (kid_told old id n.kind (n.a ∷ n.b ∷ []) kids.node d 1 n.b refl) in
    let passed = ts.own (apart_at old n.b e range (division_told old id n.a n.b n.kind kids.node h.kind d)) in
    let kept = sf.own passed.0 in
    let made = m.own (ap (λ i. three i w n.c) o.1 ∙ ap (λ i. three n.a i n.c) (kept.0 ∙ r.1)) in
    let first = j1.own o.0 r.0 in
    let last = j2.own first.0 passed.0 in
    record { none = last.0; itself = made.0; same = last.1 ∙ first.1 ∙ made.1 ∙ kept.1 ∙ passed.1 } in
    record {
      same = λ w. (own w).same;
      cost = node_cost old id n.kind (n.a ∷ n.b ∷ []) (costs new) (costs old) kids.node (omega (arith, ts.cost, sf.cost, m.cost, j1.cost, j2.cost, group_cost n.kind group.Division h.kind));
      extends = x1;
      arena = j2.arena;
      part = division_part new id n.a n.b n.kind p q flag w t k e j2.arena h.kind (node_later old new id n.kind (n.a ∷ n.b ∷ []) g kids.node)
          (node_later m3 new t n.kind (p.term ∷ w ∷ []) x4.grew (remade_as m2 m3 id n (three p.term w n.c) t 2 group.Division h.kind refl refl m))
          np u.part u.is_whole u.has pass
          (j2.says new (grew_same new) j2.arena (λ v. np.holds v && u.part.holds v) (λ v. is_nonzero (number_or (u.part.value v))) both u.says)
          (λ d. let o = own (told_before old new id g h.arena kids.place d) in (o.none, o.itself));
    }

-- what is asked for the node over the safe operand
pub division_may : (old m1 m2 : List Entry) (memo : List Part) (id : ℕ) (n : Node) (p q : Part) (test : Option ℕ) (w : ℕ) (k : ℤ) (e : Ends) → Takes old memo id n group.Division → slice_get memo n.a ≡ Some p → slice_get memo n.b ≡ Some q → extent old n.b ≡ Some (whole e) → Encloses e k → Tests 2 (IsApart e) old m1 q.term is_nonzero test → IsSafe m1 m2 q.term test k w → MayRemake m2 id n (take (arity n.kind) (three p.term w n.c))
division_may old m1 m2 memo id n p q test w k e h hp hq range enc ts sf =
    let kids = takes_two old memo id n group.Division h refl refl in
    let g = (extends_both old m1 m2 ts.extends sf.extends).grew in
    let np = part_later old m2 n.a p g h.arena kids.first (h.parts n.a p hp) in
    let u = tested 2 (IsApart e) old m1 m2 m2 n.b q is_nonzero test k w e h.arena kids.second (h.parts n.b q hq) range enc ts sf (grew_same m2) sf.arena in
    may_two m2 id n group.Division p.term w sf.arena (node_later old m2 id n.kind (children n) g h.node) h.kind refl refl (total_in m2 p.term np.kept.total) (total_in m2 w u.has.total) np.kept.bounds (u.has.bounds ∙ sym u.is_whole)

pub division_never : (es : List Entry) (memo : List Part) (id : ℕ) (n : Node) (p q : Part) (e : Ends) → Takes es memo id n group.Division → slice_get memo n.a ≡ Some p → slice_get memo n.b ≡ Some q → extent es n.b ≡ Some (whole e) → e ≡ bounds.nothing → HasNoValue es id
division_never es memo id n p q e h hp hq range none =
    let k = takes_two es memo id n group.Division h refl refl in
    division_no_value es id n.a n.b n.kind p q h.arena h.kind k.node (h.parts n.a p hp) (h.parts n.b q hq) (range ∙ ap (λ f. Some (whole f)) none)

pub nonzero_by : (k : ℤ) → (k ≡ pos 0 → ⊥) → is_nonzero k ≡ true
nonzero_by (pos zero) other = absurd (other refl)
nonzero_by (pos (suc k)) other = grind (arith, ints)
nonzero_by (negsuc k) other = refl

-- ---- accesses

pub access_parted : (old m1 m2 m3 m4 new : List Entry) (memo : List Part) (id : ℕ) (n : Node) (p q : Part) (test parts flag : Option ℕ) (w t : ℕ) (k : ℤ) (e : Ends) → Takes old memo id n group.Access → slice_get memo n.a ≡ Some p → slice_get memo n.b ≡ Some q → extent old n.a ≡ Some (whole e) → Encloses e k → is_place (pos q.len) k ≡ true → Tests 6 (AreInside (pos q.len) e) old m1 p.term (is_place (pos q.len)) test → IsSafe m1 m2 p.term test k w → Remade m2 m3 id n (three w q.term n.c) t → Joins m3 m4 q.flag p.flag parts → Joins m4 new parts test flag → Parted old new id (record { flag = flag; term = t; len = 0 })
access_parted old m1 m2 m3 m4 new memo id n p q test parts flag w t k e h hp hq range enc pass ts sf m j1 j2 =
    let kids = takes_two old memo id n group.Access h refl refl in
    let kind = access_kind n.kind h.kind in
    let x4 = extends_both m3 m4 new j1.extends j2.extends in
    let x3 = extends_both m2 m3 new m.extends x4 in
    let x2 = extends_both m1 m2 new sf.extends x3 in
    let x1 = extends_both old m1 new ts.extends x2 in
    let g = x1.grew in
    let nq = part_later old new n.b q g h.arena kids.second (h.parts n.b q hq) in
    let u = tested 6 (AreInside (pos q.len) e) old m1 m2 new n.a p (is_place (pos q.len)) test k w e h.arena kids.first (h.parts n.a p hp) range enc ts sf x3.grew j2.arena in
    let both = j1.says new j2.extends.grew j2.arena nq.holds u.part.holds nq.flag u.part.flag in
    let own : IsToldDefined old id → IsOwn old new id flag t = λ d.
    let o = (h.parts n.a p hp).own (kid_told old id n.kind (n.a ∷ n.b ∷ []) kids.node d 0 n.a refl) in
    let r = (h.parts n.b q hq).own (kid_told old id n.kind (n.a ∷ n.b ∷ []) kids.node d 1 n.b refl) in
    let passed = ts.own (access_inside old memo id n q e h hq range d) in
    let kept = sf.own passed.0 in
    let made = m.own (ap (λ i. three i q.term n.c) (kept.0 ∙ o.1) ∙ ap (λ i. three n.a i n.c) r.1) in
    let first = j1.own r.0 o.0 in
    let last = j2.own first.0 passed.0 in
    record { none = last.0; itself = made.0; same = last.1 ∙ first.1 ∙ made.1 ∙ kept.1 ∙ passed.1 } in
    record {
      same = λ w. (own w).same;
      cost = node_cost old id n.kind (n.a ∷ n.b ∷ []) (costs new) (costs old) kids.node (omega (arith, ts.cost, sf.cost, m.cost, j1.cost, j2.cost, group_cost n.kind group.Access h.kind));
      extends = x1;
      arena = j2.arena;
      part = access_part new id n.a n.b p q flag w t k e j2.arena (kind_as new id n.kind Access (n.a ∷ n.b ∷ []) kind (node_later old new id n.kind (n.a ∷ n.b ∷ []) g kids.node))
          (kind_as new t n.kind Access (w ∷ q.term ∷ []) kind (node_later m3 new t n.kind (w ∷ q.term ∷ []) x4.grew (remade_as m2 m3 id n (three w q.term n.c) t 2 group.Access h.kind refl refl m)))
          u.part nq u.is_whole u.has pass
          (j2.says new (grew_same new) j2.arena (λ v. nq.holds v && u.part.holds v) (λ v. is_place (pos q.len) (number_or (u.part.value v))) both u.says)
          (λ d. let o = own (told_before old new id g h.arena kids.place d) in (o.none, o.itself));
    }

pub access_may : (old m1 m2 : List Entry) (memo : List Part) (id : ℕ) (n : Node) (p q : Part) (test : Option ℕ) (w : ℕ) (k : ℤ) (e : Ends) → Takes old memo id n group.Access → slice_get memo n.a ≡ Some p → slice_get memo n.b ≡ Some q → extent old n.a ≡ Some (whole e) → Encloses e k → Tests 6 (AreInside (pos q.len) e) old m1 p.term (is_place (pos q.len)) test → IsSafe m1 m2 p.term test k w → MayRemake m2 id n (take (arity n.kind) (three w q.term n.c))
access_may old m1 m2 memo id n p q test w k e h hp hq range enc ts sf =
    let kids = takes_two old memo id n group.Access h refl refl in
    let g = (extends_both old m1 m2 ts.extends sf.extends).grew in
    let nq = part_later old m2 n.b q g h.arena kids.second (h.parts n.b q hq) in
    let u = tested 6 (AreInside (pos q.len) e) old m1 m2 m2 n.a p (is_place (pos q.len)) test k w e h.arena kids.first (h.parts n.a p hp) range enc ts sf (grew_same m2) sf.arena in
    may_two m2 id n group.Access w q.term sf.arena (node_later old m2 id n.kind (children n) g h.node) h.kind refl refl (total_in m2 w u.has.total) (total_in m2 q.term nq.kept.total) (u.has.bounds ∙ sym u.is_whole) nq.kept.bounds

pub access_never : (es : List Entry) (memo : List Part) (id : ℕ) (n : Node) (p q : Part) (e : Ends) (k : ℤ) → Takes es memo id n group.Access → slice_get memo n.a ≡ Some p → slice_get memo n.b ≡ Some q → extent es n.a ≡ Some (whole e) → IsPlaceIn e (pos q.len) k → k ≡ pos 0 → HasNoValue es id
access_never es memo id n p q e k h hp hq range place zero_k =
    let kids = takes_two es memo id n group.Access h refl refl in
    access_no_value es id n.a n.b p q e h.arena (kind_as es id n.kind Access (n.a ∷ n.b ∷ []) (access_kind n.kind h.kind) kids.node) (h.parts n.a p hp) (h.parts n.b q hq) range (subst (λ j. IsPlaceIn e (pos q.len) j) zero_k place)

pub place_within : (e : Ends) (n k : ℤ) → IsPlaceIn e n k → (k ≡ pos 0 → ⊥) → IsPlaceWithin e n k
place_within e n (pos zero) h other = absurd (other refl)
place_within e n (pos (suc k)) h other = h
place_within e n (negsuc k) h other = h

positive_place : (e : Ends) (n k : ℤ) → pos 1 ≤ℤ k → IsPlaceWithin e n k → IsPlaceIn e n k
positive_place e n (pos zero) l h = absurd (omega (arith, ints, l))
positive_place e n (pos (suc k)) l h = h
positive_place e n (negsuc k) l h = absurd (omega (arith, ints, l))

pub place_found : (e : Ends) (n k : ℤ) → k ≡ int_max (pos 1) e.0 → k ≤ℤ e.1 → k ≤ℤ n → IsPlaceIn e n k
place_found e n k h hi last =
    let one : pos 1 ≤ℤ k = omega (arith, ints, clamps, h) in
    let low : e.0 ≤ℤ k = omega (arith, ints, clamps, h) in
    positive_place e n k one (record { within = record { from = low; to = hi }; place = grind (arith, ints) })

-- the first place is past the bounds, or past the list
pub place_past : (e : Ends) (n k : ℤ) → k ≡ int_max (pos 1) e.0 → e.0 ≤ℤ e.1 → e.1 <ℤ k → IsPlaceIn e n (pos 0)
place_past e n k h order past = inl (omega (arith, ints, clamps, h, order, past))

short_list : (l n : ℤ) (b : Bool) → int_le (pos 1) l ≡ b → n <ℤ int_max (pos 1) l → (n <ℤ l) ⊎ (n ≤ℤ pos 0)
short_list l n true g h = let p : pos 1 ≤ℤ l = grind (arith, ints) in inl (omega (arith, ints, clamps, h, p))
short_list l n false g h = let p : l ≤ℤ pos 0 = grind (arith, ints) in inr (omega (arith, ints, clamps, h, p))

pub place_beyond : (e : Ends) (n k : ℤ) → k ≡ int_max (pos 1) e.0 → n <ℤ k → IsPlaceIn e n (pos 0)
place_beyond e n k h past = inr (short_list e.0 n (int_le (pos 1) e.0) refl (subst (λ j. n <ℤ j) h past))
