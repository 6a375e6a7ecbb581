-- What roots say of absent options.
use Rattle.std.proofs.Common.{◌≡◌, ◌≢◌, ℕ, zero, suc, ◌+◌, ◌<◌, ◌≤◌, ℤ, pos, ◌≤ℤ◌, List, [], ◌∷◌, ◌++◌, length, map, take, drop, get_or, slice_get, Bool, true, false, not, ◌||◌, ◌&&◌, cond, option_map, Option, Some, None, IsSome, refl, sym, ap, ap₂, subst, ◌∙◌, arith, inl, inr, int_le, append-nil, append_assoc}
use Rattle.std.specs.List.{AllByRecursion}
use Rattle.std.specs.Ordering.{int_eq}
use Rattle.std.proofs.lemmas.Int.{ints}
use Rattle.std.proofs.lemmas.Bool.{and_from}
use Rattle.std.proofs.lemmas.Bool.Decides.{Decides-int_eq}
use Rattle.mz_value.specs.Ranges.{Range, Has, IsInLimit, AreInLimit}
use Rattle.mz_value.proofs.Comparisons.{int_le_true}
use Rattle.mz_value.specs.declared.value.ShapeBase.{ShapeBase}
use Rattle.mz_value.specs.declared.value.ShapeBase.TheVariants as shape
use Rattle.mz_interval.specs.Ends.{Ends, is_number, if_in_limit, least_number as lowest, greatest_number as highest}
use Rattle.mz_operations.specs.declared.row.Side.TheVariants.{Least}
use Rattle.mz_operations.specs.Sets.{end_of}
use Rattle.mz_operations.specs.Bounds as bounds
use Rattle.mz_operations.specs.Bounds.{hull_of_set}
use Rattle.mz_arena.specs.declared.node.Node.{Node}
use Rattle.mz_arena.specs.declared.node.NodeKind.{NodeKind}
use Rattle.mz_arena.specs.declared.node.NodeKind.TheVariants as kinds
use Rattle.mz_arena.specs.declared.node.NodeKind.TheVariants.{Eq, Not, Or, Var}
use Rattle.mz_arena.specs.Entries.{Entry, arity, is_free, is_local}
use Rattle.mz_arena.specs.FreeNodes.{is_set_kind}
use Rattle.mz_arena.specs.InBounds.{AreInDomains, IsOfDomain}
use Rattle.mz_arena.specs.Extents.{Known, whole, truth, subset, as_truth, extent, marked, variable_extent, not_extent, open_truth}
use Rattle.mz_arena.specs.Values as terms
use Rattle.mz_arena.specs.Values.{Term, number, bit, is_true, not_term, or_term, comparison_term}
use Rattle.mz_arena.specs.Terms.{term, own_id}
use Rattle.mz_arena.specs.Arenas.{Grew, Extends, IsArena, IsSetConst}
use Rattle.mz_arena.specs.declared.instance.VarCell.{VarCell as CodeCell}
use Rattle.mz_arena.specs.declared.instance.ModelVar.{ModelVar as CodeVar}
use Rattle.mz_arena.specs.Instances.{VarCell, ModelVar, var_cell, model_var}
use Rattle.mz_arena.proofs.Folds.{get-below}
use Rattle.mz_arena.proofs.Growing.{const_extent}
use Rattle.mz_arena.proofs.Kept.{variable_extent_of}
use Rattle.mz_arena.proofs.Terms as laws
use Rattle.mz_instance.specs.Parts as instance
use Rattle.mz_instance.specs.Parts.{Sort, Whole, Truth, Subset, Part, is_subset_sort, sort_of, base_of, truths, truth_mark, occurrence, value_part}
use Rattle.mz_instance.specs.Instance.{IsTruthOver}
use Rattle.mz_instance.specs.Contents as one
use Rattle.mz_instance.specs.Solved.{IsDefault, AreDefaults, Defaults}
use Rattle.mz_partial.specs.Nodes.{Placed, IsNode}
use Rattle.mz_partial.specs.Totals.{IsTruth, IsWhole}
use Rattle.mz_partial.specs.Calls.{IsNumber}
use Rattle.mz_partial.proofs.Standing.{node_means, node_bounds, below_later, truth_in, truth_later, extends_same, extends_both}
use Rattle.mz_partial.proofs.Asked.{comparison_bounds, connective_bounds, whole_in}
use Rattle.flat_root.specs.Keeps.{AllTrue}
use Rattle.flat_root.specs.Totals.{IsRoot, AreRoots}
use Rattle.flat_root.proofs.Keeping.{fewer_domains}
use Rattle.flat.proofs.Stepping.{next_item, no_item, cells_from, vars_from}
use Rattle.flat.specs.Absent.{has_truths, IsValueNode, IsBitWhere, IsLeastNode, IsOption, IsOptionWhere, AreOptions, AreAllOptions, AreCellRoots, AddsCellRoots, all_cells, AreDefaultRoots}

-- ---- nodes

not_true : (t : Term) → is_true (not_term t) ≡ not (is_true t)
unfolding not_term
not_true t = by (is_true t)
  where
    by : (b : Bool) → is_true (bit (not b)) ≡ not b
    by true = refl
    by false = refl

or_true : (s t : Term) → is_true (or_term s t) ≡ (is_true s || is_true t)
unfolding or_term
or_true s t = by (is_true s || is_true t)
  where
    by : (b : Bool) → is_true (bit b) ≡ b
    by true = refl
    by false = refl

equal_true : (m n : ℤ) → is_true (comparison_term int_eq (Some (number m)) (Some (number n))) ≡ int_eq m n
unfolding comparison_term
equal_true m n = by (int_eq m n)
  where
    by : (b : Bool) → is_true (bit b) ≡ b
    by true = refl
    by false = refl

bit_not : (n : ℤ) → (int_eq n (pos 0) ≡ false → n ≡ pos 1) → not (int_eq n (pos 1)) ≡ int_eq n (pos 0)
bit_not n h = by (int_eq n (pos 0)) refl
  where
    by : (b : Bool) → int_eq n (pos 0) ≡ b → not (int_eq n (pos 1)) ≡ b
    by true e = grind (arith, ints)
    by false e = ap (λ m. not (int_eq m (pos 1))) (h e)

not_truth : (x : Known) (e : Ends) → x ≡ Some (truth e) → not_extent x ≡ open_truth
unfolding not_extent
not_truth x e h = ap not_extent h

truth_of_node : (es : List Entry) (id : ℕ) → extent es id ≡ open_truth → IsTruth es id
truth_of_node es id h = record { ends = bounds.truth; is = h }

module _ (old new : List Entry) (id t : ℕ) (p : Placed old new Not (id ∷ []) t) (h : IsTruth old id) where
  below : id < length old
  below = truth_in old id h

  negation_truth : IsTruth new t
  negation_truth = truth_of_node new t (node_bounds new t Not (id ∷ []) p.arena p.node ∙ not_truth (extent new id) h.ends (p.extends.grew.extents id below ∙ h.is))

  pub negation_least : (l : ℤ) → l ≡ pos 0 → IsLeastNode old new true id l t
  negation_least l zero_ = record {
    extends = p.extends;
    arena = p.arena;
    is_truth = negation_truth;
    means = λ v n d e b.
        ap is_true (node_means new t Not (id ∷ []) p.arena p.node v)
        ∙ not_true (term v new id)
        ∙ ap (λ x. not (is_true x)) e
        ∙ bit_not n b
        ∙ ap (int_eq n) (sym zero_);
  }

module _ (old mid new : List Entry) (id n t : ℕ) (l : ℤ) (g : IsNumber old mid l n) (p : Placed mid new Eq (id ∷ n ∷ []) t) (h : IsWhole old id) where
  number_at : (v : terms.Values) → AreInDomains new v → term v new n ≡ Some (number l)
  number_at v d = (g.has new p.extends.grew p.arena).is v (laws.domains_lie new p.arena v d)

  whole_new : extent new id ≡ Some (whole h.ends)
  whole_new =
      let low = whole_in old id h in
      p.extends.grew.extents id (below_later old mid id g.extends.grew low) ∙ g.extends.grew.extents id low ∙ h.is

  equal_truth : IsTruth new t
  equal_truth = truth_of_node new t (node_bounds new t Eq (id ∷ n ∷ []) p.arena p.node ∙ comparison_bounds p.node.there Eq (extent new id) (extent new n) h.ends (l, l) refl whole_new (g.has new p.extends.grew p.arena).bounds)

  pub equal_least : IsLeastNode old new false id l t
  equal_least = record {
    extends = extends_both old mid new g.extends p.extends;
    arena = p.arena;
    is_truth = equal_truth;
    means = λ v m d e b.
        ap is_true (node_means new t Eq (id ∷ n ∷ []) p.arena p.node v)
        ∙ ap₂ (λ x y. is_true (comparison_term int_eq x y)) e (number_at v d)
        ∙ equal_true m l;
  }

pub whole_mid : (old mid : List Entry) (id n : ℕ) (l : ℤ) → IsNumber old mid l n → IsWhole old id → IsWhole mid id
whole_mid old mid id n l g h = record { ends = h.ends; is = g.extends.grew.extents id (whole_in old id h) ∙ h.is }

pub number_whole : (old mid : List Entry) (n : ℕ) (l : ℤ) → IsNumber old mid l n → IsWhole mid n
number_whole old mid n l g = record { ends = (l, l); is = (g.has mid (extends_same mid).grew g.arena).bounds }

pub truth_given : (es : List Entry) (b : Bool) (id : ℕ) (l : ℤ) → b ≡ true → IsValueNode es b id l → IsTruth es id
truth_given es b id l e h = (subst (λ z. IsValueNode es z id l) e h).0

pub whole_given : (es : List Entry) (b : Bool) (id : ℕ) (l : ℤ) → b ≡ false → IsValueNode es b id l → IsWhole es id
whole_given es b id l e h = (subst (λ z. IsValueNode es z id l) e h).0

pub limit_given : (es : List Entry) (b : Bool) (id : ℕ) (l : ℤ) → b ≡ false → IsValueNode es b id l → is_number l ≡ true
limit_given es b id l e h = (subst (λ z. IsValueNode es z id l) e h).1

pub least_truth : (old new : List Entry) (b : Bool) (id : ℕ) (l : ℤ) (t : ℕ) → b ≡ true → IsValueNode old b id l → Placed old new Not (id ∷ []) t → IsLeastNode old new b id l t
least_truth old new b id l t e h p =
    let v = subst (λ z. IsValueNode old z id l) e h in
    subst (λ z. IsLeastNode old new z id l t) (sym e) (negation_least old new id t p v.0 l v.1)

pub least_number : (old mid new : List Entry) (b : Bool) (id : ℕ) (l : ℤ) (n t : ℕ) → b ≡ false → IsValueNode old b id l → IsNumber old mid l n → Placed mid new Eq (id ∷ n ∷ []) t → IsLeastNode old new b id l t
least_number old mid new b id l n t e h g p = subst (λ z. IsLeastNode old new z id l t) (sym e) (equal_least old mid new id n t l g p (subst (λ z. IsValueNode old z id l) e h).0)

-- ---- the nodes of options

free_var : (k : NodeKind) → is_free k ≡ true → is_local k ≡ false → is_set_kind k ≡ false → k ≡ Var
free_var kinds.Var f l s = refl
free_var kinds.SetVar f l s = absurd (cc)
free_var kinds.Local f l s = absurd (cc)
free_var kinds.SetLocal f l s = absurd (cc)
free_var _ f l s = absurd (cc)

-- the node of a part whose values are numbers
module _ (es : List Entry) (arena : IsArena es) (k id : ℕ) (p : Part) (n : instance.IsNode es false k p id) (numbers : is_subset_sort p.sort ≡ false) where
  is_var : n.there.node.kind ≡ Var
  is_var = free_var n.there.node.kind n.free n.local (n.sort ∙ numbers)

  abbrev node_is : IsNode es id Var (n.there.node.a ∷ [])
  node_is = record { there = n.there; stands = n.stands; kind = is_var; kids = ap (λ j. take (arity j) (n.there.node.a ∷ n.there.node.b ∷ n.there.node.c ∷ [])) is_var }

  pub number_is : (v : terms.Values) → term v es id ≡ Some (number (v.number id))
  number_is v = node_means es id Var (n.there.node.a ∷ []) arena node_is v ∙ ap (λ i. Some (number (v.number i))) n.own

  pub has_number : (v : terms.Values) → AreInDomains es v → Has p.set (v.number id)
  has_number v d =
      let i = d id n.there n.over n.stands n.domain in
      subst (λ u. Has u (v.number id)) n.set (subst (λ j. Has n.over.set (v.number j)) n.own (of_var v n.there.node n.there.node.kind n.over.set is_var i))
    where
      of_var : (v : terms.Values) (m : Node) (k : NodeKind) (u : List Range) → k ≡ Var → IsOfDomain v m k u → Has u (v.number (own_id m))
      of_var v m k u e h = subst (λ j. IsOfDomain v m j u) e h

  const : IsSetConst es n.there.node.a
  const = (arena.domains id n.there n.stands n.free).const

  const_set : const.there.set ≡ p.set
  const_set = ap (λ (e : Entry). e.set) (same_const const.there n.over (slice_get es n.there.node.a) const.stands n.domain) ∙ n.set
    where
      same_const : (x y : Entry) (o : Option Entry) → o ≡ Some x → o ≡ Some y → x ≡ y
      same_const x y o h k = cc

  pub bounds_are : extent es id ≡ marked n.there.node.c (hull_of_set p.set)
  bounds_are =
      node_bounds es id Var (n.there.node.a ∷ []) arena node_is
      ∙ ap (variable_extent n.there.node.c) (const_extent es n.there.node.a arena const)
      ∙ variable_extent_of n.there.node.c (Some (subset const.there.set)) const.there.set refl
      ∙ ap (λ u. marked n.there.node.c (hull_of_set u)) const_set

  pub bounds_some : IsSome (marked n.there.node.c (hull_of_set p.set))
  bounds_some = subst (λ (x : Known). IsSome x) bounds_are (arena.bounded id n.there n.stands)

  pub whole_node : n.there.node.c ≡ 0 → IsWhole es id
  whole_node e = by (if_in_limit (hull_of_set p.set)) refl (subst (λ c. IsSome (marked c (hull_of_set p.set))) e bounds_some)
    where
      by : (o : Option Ends) → if_in_limit (hull_of_set p.set) ≡ o → IsSome (option_map whole (if_in_limit (hull_of_set p.set))) → IsWhole es id
      by None q s = absurd (clash (option_map whole (if_in_limit (hull_of_set p.set))) (ap (option_map whole) q) s)
        where
          clash : (x : Known) → x ≡ None → IsSome x → ⊥
          clash None h s = cc
          clash (Some y) h s = cc
      by (Some e2) q s = record { ends = e2; is = bounds_are ∙ ap (λ c. marked c (hull_of_set p.set)) e ∙ ap (option_map whole) q }

  pub truth_node : n.there.node.c ≡ 1 → IsTruth es id
  truth_node e = by (int_eq (hull_of_set p.set).0 (pos 0) && int_eq (hull_of_set p.set).1 (pos 1)) refl (subst (λ c. IsSome (marked c (hull_of_set p.set))) e bounds_some)
    where
      by : (b : Bool) → (int_eq (hull_of_set p.set).0 (pos 0) && int_eq (hull_of_set p.set).1 (pos 1)) ≡ b → IsSome (cond (int_eq (hull_of_set p.set).0 (pos 0) && int_eq (hull_of_set p.set).1 (pos 1)) (Some (truth (hull_of_set p.set))) None) → IsTruth es id
      by true q s = record { ends = hull_of_set p.set; is = bounds_are ∙ ap (λ c. marked c (hull_of_set p.set)) e ∙ ap (λ b. cond b (Some (truth (hull_of_set p.set))) None) q }
      by false q s = absurd (clash (cond (int_eq (hull_of_set p.set).0 (pos 0) && int_eq (hull_of_set p.set).1 (pos 1)) (Some (truth (hull_of_set p.set))) None) (ap (λ b. cond b (Some (truth (hull_of_set p.set))) None) q) s)
        where
          clash : (x : Known) → x ≡ None → IsSome x → ⊥
          clash None h s = cc
          clash (Some y) h s = cc

-- ---- an option's value

sort_by : (b : ShapeBase) → is_subset_sort (sort_of (base_of b)) ≡ false → has_truths b ≡ true → sort_of (base_of b) ≡ Truth
sort_by shape.Bool n h = refl
sort_by shape.Int n h = absurd (cc)
sort_by (shape.Enum e) n h = absurd (cc)
sort_by shape.SetInt n h = absurd (cc)
sort_by (shape.SetEnum e) n h = absurd (cc)

whole_by : (b : ShapeBase) → is_subset_sort (sort_of (base_of b)) ≡ false → has_truths b ≡ false → sort_of (base_of b) ≡ Whole
whole_by shape.Bool n h = absurd (cc)
whole_by shape.Int n h = refl
whole_by (shape.Enum e) n h = refl
whole_by shape.SetInt n h = absurd (cc)
whole_by (shape.SetEnum e) n h = absurd (cc)

not_subset : (s : Sort) → is_subset_sort s ≡ false → s ≢ Subset
not_subset Whole h e = cc
not_subset Truth h e = cc
not_subset Subset h e = cc

truths_least : (u : List Range) (l : ℤ) → u ≡ truths → end_of Least u ≡ Some l → l ≡ pos 0
unfolding end_of
truths_least u l e h = same (sym h ∙ ap (end_of Least) e)
  where
    same : Some l ≡ Some (pos 0) → l ≡ pos 0
    same h = cc

truths_bit : (n : ℤ) → Has truths n → int_eq n (pos 0) ≡ false → n ≡ pos 1
truths_bit n (inl h) e = grind (arith, ints)
truths_bit n (inr h) e = absurd h

module _ (es : List Entry) (arena : IsArena es) (m : ModelVar) (o : ℕ) (c : VarCell) (h : IsOption es m o c) where
  mark : h.second.there.node.c ≡ truth_mark (sort_of (base_of m.base))
  mark = h.second.mark (not_subset (sort_of (base_of m.base)) h.numbers)

  pub occurs_is : (v : terms.Values) → term v es o ≡ Some (number (v.number o))
  occurs_is v = number_is es arena h.first_ o occurrence h.first refl v

  pub value_is : (v : terms.Values) → term v es c.term ≡ Some (number (v.number c.term))
  value_is v = number_is es arena h.second_ c.term (value_part m c) h.second h.numbers v

  pub occurs_truth : IsTruth es o
  occurs_truth = truth_node es arena h.first_ o occurrence h.first refl (h.first.mark (λ e. cc))

  pub value_node : (l : ℤ) → end_of Least c.domain ≡ Some l → is_number l ≡ true → IsValueNode es (has_truths m.base) c.term l
  value_node l least limit = by (has_truths m.base) refl
    where
      by : (b : Bool) → has_truths m.base ≡ b → IsValueNode es b c.term l
      by true e =
          let s = sort_by m.base h.numbers e in
          (truth_node es arena h.second_ c.term (value_part m c) h.second h.numbers (mark ∙ ap truth_mark s), truths_least c.domain l (subst (λ z. IsTruthOver z c.domain) s h.over) least)
      by false e = (whole_node es arena h.second_ c.term (value_part m c) h.second h.numbers (mark ∙ ap truth_mark (whole_by m.base h.numbers e)), limit)

  pub is_bit : (v : terms.Values) → AreInDomains es v → IsBitWhere (has_truths m.base) (v.number c.term)
  is_bit v d = by (has_truths m.base) refl
    where
      by : (b : Bool) → has_truths m.base ≡ b → IsBitWhere b (v.number c.term)
      by true e = truths_bit (v.number c.term) (subst (λ u. Has u (v.number c.term)) (subst (λ z. IsTruthOver z c.domain) (sort_by m.base h.numbers e) h.over) (has_number es arena h.second_ c.term (value_part m c) h.second h.numbers v d))
      by false e = tt

  pub has_value : (v : terms.Values) → AreInDomains es v → Has c.domain (v.number c.term)
  has_value v d = has_number es arena h.second_ c.term (value_part m c) h.second h.numbers v d

-- ---- the terms go on

pub later_node : (old new : List Entry) → Grew old new → (k id : ℕ) (p : Part) → instance.IsNode old false k p id → instance.IsNode new false k p id
later_node old new g k id p n = record {
  there = n.there;
  stands = g.same id (get-below old id n.there n.stands) ∙ n.stands;
  free = n.free;
  local = n.local;
  sort = n.sort;
  mark = n.mark;
  own = n.own;
  number = n.number;
  over = n.over;
  domain = g.same n.there.node.a (get-below old n.there.node.a n.over n.domain) ∙ n.domain;
  set = n.set;
}

pub option_later : (old new : List Entry) (m : ModelVar) (o : ℕ) (c : VarCell) → Grew old new → IsOption old m o c → IsOption new m o c
option_later old new m o c g h = record {
  numbers = h.numbers;
  first_ = h.first_;
  first = later_node old new g h.first_ o occurrence h.first;
  second_ = h.second_;
  second = later_node old new g h.second_ c.term (value_part m c) h.second;
  over = h.over;
}

where_later : (old new : List Entry) (m : ModelVar) (o : Option ℕ) (c : VarCell) → Grew old new → IsOptionWhere old m o c → IsOptionWhere new m o c
where_later old new m None c g h = tt
where_later old new m (Some o) c g h = option_later old new m o c g h

pub options_later : (old new : List Entry) (m : ModelVar) (cs : List VarCell) → Grew old new → AreOptions old m cs → AreOptions new m cs
options_later old new m [] g h = tt
options_later old new m (c ∷ cs) g h = (where_later old new m c.occurs c g h.0, options_later old new m cs g h.1)

pub all_later : (old new : List Entry) (ms : List ModelVar) → Grew old new → AreAllOptions old ms → AreAllOptions new ms
all_later old new [] g h = tt
all_later old new (m ∷ ms) g h = (options_later old new m m.cells g h.0, all_later old new ms g h.1)

-- ---- the root of an option

root_of : (es : List Entry) (t : ℕ) → IsTruth es t → IsRoot es t
root_of es t h = record { place = truth_in es t h; truth = subst (λ (x : Known). IsSome (as_truth x)) (sym h.is) refl }

default_to : (x y l : ℤ) (e : Option ℤ) → e ≡ Some l → (one.is_one x ≡ false → e ≡ Some y) → (int_eq x (pos 1) || int_eq y l) ≡ true
default_to x y l e h d = by (int_eq x (pos 1)) refl
  where
    same : Some l ≡ Some y → y ≡ l
    same h = cc

    by : (b : Bool) → int_eq x (pos 1) ≡ b → (b || int_eq y l) ≡ true
    by true k = refl
    by false k = (Decides-int_eq y l).1 (same (sym h ∙ d k))

default_from : (x y l : ℤ) (e : Option ℤ) → e ≡ Some l → (int_eq x (pos 1) || int_eq y l) ≡ true → one.is_one x ≡ false → e ≡ Some y
default_from x y l e h d k = h ∙ ap Some (sym ((Decides-int_eq y l).0 (sym (ap (λ b. b || int_eq y l) k) ∙ d)))

module _ (old mid new : List Entry) (m : ModelVar) (o : ℕ) (c : VarCell) (l : ℤ) (n t : ℕ) (arena : IsArena old) (h : IsOption old m o c) (occurs : c.occurs ≡ Some o) (least : end_of Least c.domain ≡ Some l) (g : IsLeastNode old mid (has_truths m.base) c.term l n) (p : Placed mid new Or (o ∷ n ∷ []) t) where
  ext : Extends old new
  ext = extends_both old mid new g.extends p.extends

  opt : IsOption new m o c
  opt = option_later old new m o c ext.grew h

  root_truth : IsTruth new t
  root_truth =
      let a = occurs_truth new p.arena m o c opt in
      let b = truth_later mid new n p.extends.grew g.is_truth in
      truth_of_node new t (node_bounds new t Or (o ∷ n ∷ []) p.arena p.node ∙ connective_bounds p.node.there Or (extent new o) (extent new n) a.ends b.ends refl a.is b.is)

  root_is : (v : terms.Values) → AreInDomains new v → is_true (term v new t) ≡ (int_eq (v.number o) (pos 1) || int_eq (v.number c.term) l)
  root_is v d =
      let before = fewer_domains mid new p.extends v d in
      let opt_mid = option_later old mid m o c g.extends.grew h in
      ap is_true (node_means new t Or (o ∷ n ∷ []) p.arena p.node v)
      ∙ or_true (term v new o) (term v new n)
      ∙ ap₂ (λ x y. x || y) (ap is_true (occurs_is new p.arena m o c opt v))
      (ap is_true (p.extends.grew.terms v n (truth_in mid n g.is_truth))
      ∙ g.means v (v.number c.term) before (value_is mid g.arena m o c opt_mid v) (is_bit mid g.arena m o c opt_mid v before))

  pub option_root : (before : List ℕ) → AddsCellRoots old new (c ∷ []) before (before ++ t ∷ [])
  option_root before = record {
    extends = ext;
    arena = p.arena;
    added = t ∷ [];
    items = refl;
    roots = record {
      each = (root_of new t root_truth, tt);
      to = λ v d f. (root_is v d ∙ default_to (v.number o) (v.number c.term) l (end_of Least c.domain) least (subst (λ q. IsDefault q c v) occurs f.0), tt);
      from = λ v d f. (subst (λ q. IsDefault q c v) (sym occurs) (default_from (v.number o) (v.number c.term) l (end_of Least c.domain) least (sym (root_is v d) ∙ f.0)), tt);
    };
  }

pub occurs_mid : (old mid : List Entry) (m : ModelVar) (o : ℕ) (c : VarCell) (b : Bool) (l : ℤ) (n : ℕ) → IsOption old m o c → IsLeastNode old mid b c.term l n → IsTruth mid o
occurs_mid old mid m o c b l n h g = occurs_truth mid g.arena m o c (option_later old mid m o c g.extends.grew h)

pub added_by : (old new : List Entry) (cs : List VarCell) (before after more : List ℕ) → after ≡ more → AddsCellRoots old new cs before more → AddsCellRoots old new cs before after
added_by old new cs before after more e h = subst (AddsCellRoots old new cs before) (sym e) h

no_cell_root : (es : List Entry) (c : VarCell) (before : List ℕ) → IsArena es → ((v : terms.Values) → AreInDomains es v → IsDefault c.occurs c v) → AddsCellRoots es es (c ∷ []) before before
no_cell_root es c before arena h = record {
  extends = extends_same es;
  arena = arena;
  added = [];
  items = sym (append-nil before);
  roots = record { each = tt; to = λ v d f. tt; from = λ v d f. (h v d, tt) };
}

pub no_option : (es : List Entry) (c : VarCell) (before : List ℕ) → IsArena es → c.occurs ≡ None → AddsCellRoots es es (c ∷ []) before before
no_option es c before arena e = no_cell_root es c before arena (λ v d. subst (λ q. IsDefault q c v) (sym e) tt)

no_least : (u : List Range) → end_of Least u ≡ None → u ≡ []
unfolding end_of
no_least [] h = refl
no_least (r ∷ rs) h = absurd (cc)

pub no_value : (es : List Entry) (m : ModelVar) (o : ℕ) (c : VarCell) (before : List ℕ) → IsArena es → c.occurs ≡ Some o → IsOption es m o c → end_of Least c.domain ≡ None → AddsCellRoots es es (c ∷ []) before before
no_value es m o c before arena occurs h e = no_cell_root es c before arena (λ v d. absurd (subst (λ u. Has u (v.number c.term)) (no_least c.domain e) (has_value es arena m o c h v d)))

-- ---- several

all_true_both : (es : List Entry) (is js : List ℕ) (v : terms.Values) → AllTrue es is v → AllTrue es js v → AllTrue es (is ++ js) v
all_true_both es [] js v a b = b
all_true_both es (i ∷ is) js v a b = (a.0, all_true_both es is js v a.1 b)

all_true_first : (es : List Entry) (is js : List ℕ) (v : terms.Values) → AllTrue es (is ++ js) v → AllTrue es is v
all_true_first es [] js v a = tt
all_true_first es (i ∷ is) js v a = (a.0, all_true_first es is js v a.1)

all_true_rest : (es : List Entry) (is js : List ℕ) (v : terms.Values) → AllTrue es (is ++ js) v → AllTrue es js v
all_true_rest es [] js v a = a
all_true_rest es (i ∷ is) js v a = all_true_rest es is js v a.1

defaults_both : (cs ds : List VarCell) (v : terms.Values) → AreDefaults cs v → AreDefaults ds v → AreDefaults (cs ++ ds) v
defaults_both [] ds v a b = b
defaults_both (c ∷ cs) ds v a b = (a.0, defaults_both cs ds v a.1 b)

defaults_first : (cs ds : List VarCell) (v : terms.Values) → AreDefaults (cs ++ ds) v → AreDefaults cs v
defaults_first [] ds v a = tt
defaults_first (c ∷ cs) ds v a = (a.0, defaults_first cs ds v a.1)

defaults_rest : (cs ds : List VarCell) (v : terms.Values) → AreDefaults (cs ++ ds) v → AreDefaults ds v
defaults_rest [] ds v a = a
defaults_rest (c ∷ cs) ds v a = defaults_rest cs ds v a.1

roots_both : (es : List Entry) (is js : List ℕ) → AreRoots es is → AreRoots es js → AreRoots es (is ++ js)
roots_both es [] js a b = b
roots_both es (i ∷ is) js a b = (a.0, roots_both es is js a.1 b)

root_later : (old new : List Entry) (i : ℕ) → Grew old new → IsRoot old i → IsRoot new i
root_later old new i g r = record { place = below_later old new i g r.place; truth = subst (λ (x : Known). IsSome (as_truth x)) (sym (g.extents i r.place)) r.truth }

pub roots_later : (old new : List Entry) (is : List ℕ) → Grew old new → AreRoots old is → AreRoots new is
roots_later old new [] g r = tt
roots_later old new (i ∷ is) g r = (root_later old new i g r.0, roots_later old new is g r.1)

pub true_on : (old new : List Entry) (is : List ℕ) (v : terms.Values) → Grew old new → AreRoots old is → AllTrue old is v → AllTrue new is v
true_on old new [] v g r a = tt
true_on old new (i ∷ is) v g r a = (ap is_true (g.terms v i r.0.place) ∙ a.0, true_on old new is v g r.1 a.1)

pub true_back : (old new : List Entry) (is : List ℕ) (v : terms.Values) → Grew old new → AreRoots old is → AllTrue new is v → AllTrue old is v
true_back old new [] v g r a = tt
true_back old new (i ∷ is) v g r a = (sym (ap is_true (g.terms v i r.0.place)) ∙ a.0, true_back old new is v g r.1 a.1)

pub cells_both : (old mid new : List Entry) (cs ds : List VarCell) (a b d : List ℕ) → AddsCellRoots old mid cs a b → AddsCellRoots mid new ds b d → AddsCellRoots old new (cs ++ ds) a d
cells_both old mid new cs ds a b d g h = record {
  extends = extends_both old mid new g.extends h.extends;
  arena = h.arena;
  added = g.added ++ h.added;
  items = h.items ∙ ap (λ xs. xs ++ h.added) g.items ∙ append_assoc a g.added h.added;
  roots = record {
    each = roots_both new g.added h.added (roots_later mid new g.added h.extends.grew g.roots.each) h.roots.each;
    to = λ v e f. all_true_both new g.added h.added v (true_on mid new g.added v h.extends.grew g.roots.each (g.roots.to v (fewer_domains mid new h.extends v e) (defaults_first cs ds v f))) (h.roots.to v e (defaults_rest cs ds v f));
    from = λ v e f. defaults_both cs ds v (g.roots.from v (fewer_domains mid new h.extends v e) (true_back mid new g.added v h.extends.grew g.roots.each (all_true_first new g.added h.added v f))) (h.roots.from v e (all_true_rest new g.added h.added v f));
  };
}

pub no_cells : (es : List Entry) (a : List ℕ) → IsArena es → AddsCellRoots es es [] a a
no_cells es a arena = record {
  extends = extends_same es;
  arena = arena;
  added = [];
  items = sym (append-nil a);
  roots = record { each = tt; to = λ v d f. tt; from = λ v d f. tt };
}

-- ---- of all variables

defaults_all : (ms : List ModelVar) (v : terms.Values) → Defaults ms v → AreDefaults (all_cells ms) v
defaults_all [] v h = tt
defaults_all (m ∷ ms) v h = defaults_both m.cells (all_cells ms) v h.0 (defaults_all ms v h.1)

all_defaults : (ms : List ModelVar) (v : terms.Values) → AreDefaults (all_cells ms) v → Defaults ms v
all_defaults [] v h = tt
all_defaults (m ∷ ms) v h = (defaults_first m.cells (all_cells ms) v h, all_defaults ms v (defaults_rest m.cells (all_cells ms) v h))

pub default_roots : (es : List Entry) (ms : List ModelVar) (roots : List ℕ) → AreCellRoots es (all_cells ms) roots → AreDefaultRoots es ms roots
default_roots es ms roots h = record {
  each = h.each;
  to = λ v d f. h.to v d (defaults_all ms v f);
  from = λ v d f. all_defaults ms v (h.from v d f);
}

-- ---- one after the other

pub record CellsFixed (old es : List Entry) (m : ModelVar) (all rest : List VarCell) (before now : List ℕ) : Type 0 where
  pub done : List VarCell
  pub split : all ≡ done ++ rest
  pub options : AreOptions es m rest
  pub adds : AddsCellRoots old es done before now

pub cells_begin : (es : List Entry) (m : ModelVar) (all : List VarCell) (before : List ℕ) → IsArena es → AreOptions es m all → CellsFixed es es m all all before before
cells_begin es m all before arena h = record { done = []; split = refl; options = h; adds = no_cells es before arena }

pub cells_next : (old es new : List Entry) (m : ModelVar) (all : List VarCell) (c : VarCell) (rest : List VarCell) (before now after : List ℕ) → CellsFixed old es m all (c ∷ rest) before now → AddsCellRoots es new (c ∷ []) now after → CellsFixed old new m all rest before after
cells_next old es new m all c rest before now after h a = record {
  done = h.done ++ c ∷ [];
  split = h.split ∙ sym (append_assoc h.done (c ∷ []) rest);
  options = options_later es new m rest a.extends.grew h.options.1;
  adds = cells_both old es new h.done (c ∷ []) before now after h.adds a;
}

pub cells_done : (old es : List Entry) (m : ModelVar) (all : List VarCell) (before now : List ℕ) → CellsFixed old es m all [] before now → AddsCellRoots old es all before now
cells_done old es m all before now h = subst (λ cs. AddsCellRoots old es cs before now) (sym (h.split ∙ append-nil h.done)) h.adds

pub record VarsFixed (old es : List Entry) (all : List VarCell) (rest : List ModelVar) (before now : List ℕ) : Type 0 where
  pub done : List VarCell
  pub split : all ≡ done ++ all_cells rest
  pub options : AreAllOptions es rest
  pub adds : AddsCellRoots old es done before now

pub vars_begin : (es : List Entry) (ms : List ModelVar) (before : List ℕ) → IsArena es → AreAllOptions es ms → VarsFixed es es (all_cells ms) ms before before
vars_begin es ms before arena h = record { done = []; split = refl; options = h; adds = no_cells es before arena }

pub vars_next : (old es new : List Entry) (all : List VarCell) (m : ModelVar) (rest : List ModelVar) (before now after : List ℕ) → VarsFixed old es all (m ∷ rest) before now → AddsCellRoots es new m.cells now after → VarsFixed old new all rest before after
vars_next old es new all m rest before now after h a = record {
  done = h.done ++ m.cells;
  split = h.split ∙ sym (append_assoc h.done m.cells (all_cells rest));
  options = all_later es new rest a.extends.grew h.options.1;
  adds = cells_both old es new h.done m.cells before now after h.adds a;
}

pub vars_done : (old es : List Entry) (all : List VarCell) (before now : List ℕ) → VarsFixed old es all [] before now → AddsCellRoots old es all before now
vars_done old es all before now h = subst (λ cs. AddsCellRoots old es cs before now) (sym (h.split ∙ append-nil h.done)) h.adds

pub cells_first : (old es : List Entry) (m : ModelVar) (all : List VarCell) (c : VarCell) (rest : List VarCell) (before now : List ℕ) → CellsFixed old es m all (c ∷ rest) before now → AreOptions es m (c ∷ [])
cells_first old es m all c rest before now h = (h.options.0, tt)

pub vars_first : (old es : List Entry) (all : List VarCell) (m : ModelVar) (rest : List ModelVar) (before now : List ℕ) → VarsFixed old es all (m ∷ rest) before now → AreOptions es m m.cells
vars_first old es all m rest before now h = h.options.0

pub cells_here : (all : List CodeCell) (k : ℕ) (c d : CodeCell) → k < length all → c ≡ get_or all k d → cells_from k all ≡ var_cell c ∷ cells_from (k + 1) all
cells_here all k c d low is = let next : suc k ≡ k + 1 = omega arith in ap (map var_cell) (next_item all k c d low is) ∙ ap (λ j. var_cell c ∷ cells_from j all) next

pub cells_end : (all : List CodeCell) (k : ℕ) → length all ≤ k → cells_from k all ≡ []
cells_end all k low = ap (map var_cell) (no_item all k low)

pub vars_here : (all : List CodeVar) (k : ℕ) (m d : CodeVar) → k < length all → m ≡ get_or all k d → vars_from k all ≡ model_var m ∷ vars_from (k + 1) all
vars_here all k m d low is = let next : suc k ≡ k + 1 = omega arith in ap (map model_var) (next_item all k m d low is) ∙ ap (λ j. model_var m ∷ vars_from j all) next

pub vars_end : (all : List CodeVar) (k : ℕ) → length all ≤ k → vars_from k all ≡ []
vars_end all k low = ap (map model_var) (no_item all k low)

-- ---- the least number of a domain

limit_number : (n : ℤ) → IsInLimit n → is_number n ≡ true
limit_number n h = and_from (int_le lowest n) (int_le n highest) (int_le_true lowest n h.0) (int_le_true n highest h.1)

pub least_in_limit : (u : List Range) (l : ℤ) → AreInLimit u → end_of Least u ≡ Some l → is_number l ≡ true
unfolding end_of
least_in_limit [] l h e = absurd (cc)
least_in_limit (r ∷ rs) l h e = let same : r.0 ≡ l = cc in subst (λ n. is_number n ≡ true) same (limit_number r.0 h.0)
