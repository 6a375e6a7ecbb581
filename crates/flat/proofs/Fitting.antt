-- Values in their domains: of an instance's nodes, and of a front's variables.
use Rattle.std.proofs.Common.{◌≡◌, ◌≢◌, ◌⊎◌, ℕ, zero, suc, ◌+◌, ◌<◌, ◌≤◌, ℤ, pos, ◌≤ℤ◌, List, [], ◌∷◌, ◌++◌, length, map, slice_get, is_none, Bool, true, false, Option, Some, None, inl, inr, refl, sym, ap, ap₂, subst, ◌∙◌, arith}
use Rattle.std.specs.List.{AllByRecursion, flat_map}
use Rattle.std.proofs.lemmas.Int.{ints}
use Rattle.std.proofs.lemmas.List.{map-append}
use Rattle.mz_base.specs.Names.{text_of}
use Rattle.mz_value.specs.Ranges.{Range, Has, AreCanonical, AreInLimit, IsInLimit}
use Rattle.mz_operations.specs.Laws.{IsSet, IsPart}
use Rattle.mz_arena.specs.declared.node.Node.{Node}
use Rattle.mz_arena.specs.declared.node.NodeKind.{NodeKind}
use Rattle.mz_arena.specs.declared.node.NodeKind.TheVariants as kinds
use Rattle.mz_arena.specs.Entries.{Entry, at, is_free, is_local}
use Rattle.mz_arena.specs.Extents.{extent}
use Rattle.mz_arena.specs.Arenas.{IsArena, Extends, IsSetConst, both_truth_values, has_mark}
use Rattle.mz_arena.specs.FreeNodes.{is_set_kind}
use Rattle.mz_arena.specs.InBounds.{IsOfDomain, AreInDomains}
use Rattle.mz_arena.specs.Instances.{VarCell, ModelVar}
use Rattle.mz_arena.specs.Terms.{own_id}
use Rattle.mz_arena.specs.Values as terms
use Rattle.mz_arena.proofs.Folds.{get-below}
use Rattle.mz_instance.specs.Parts.{Sort, Whole, Truth, Subset, Part, is_subset_sort, truths, occurrence, value_part, parts_of, var_parts, parts, IsNode, AreNodes, FitsSort}
use Rattle.mz_instance.specs.Instance.{IsTruthOver, AreParts}
use Rattle.mz_instance.specs.Instance as instance
use Rattle.mz_instance.specs.Solved.{subset_or_whole, FitsNode, FitsArena}
use Rattle.fz_program.specs.Names.{Name}
use Rattle.fz_program.specs.declared.program.Domain.{Domain}
use Rattle.fz_program.specs.Values as values
use Rattle.fz_program.specs.Values.{Value, Values}
use Rattle.fz_program.specs.Flat as flat
use Rattle.fz_program.specs.Flat.{Variable, IsInDomain}
use Rattle.flat_meaning.specs.Front.{written_set, domain_by, cell_variables, variables_from, front_variables}
use Rattle.flat_meaning.specs.Faithful.{value_by, front_values}
use Rattle.flat.proofs.Declarable.{written_same}
use Rattle.flat_reif.specs.States.{written}

-- ---- sets

limited : (s u : List Range) → AreCanonical s → ((x : ℤ) → Has s x → Has u x) → AreInLimit u → AreInLimit s
limited s u c h l = by s c (λ x i. inside u x l (h x i))
  where
    inside : (u : List Range) (x : ℤ) → AreInLimit u → Has u x → IsInLimit x
    inside [] x l h = absurd h
    inside (r ∷ rs) x l (inl i) = (omega (arith, ints), omega (arith, ints))
    inside (r ∷ rs) x l (inr i) = inside rs x l.2 i

    by : (s : List Range) → AreCanonical s → ((x : ℤ) → Has s x → IsInLimit x) → AreInLimit s
    by [] c h = tt
    by (r ∷ rs) c h = (h r.0 (inl (omega (arith, ints), c.0)), h r.1 (inl (c.0, omega (arith, ints))), by rs c.2 (λ x m. h x (inr m)))

same_entry : (a b : Entry) (o : Option Entry) → o ≡ Some a → o ≡ Some b → a ≡ b
same_entry a b o h k = cc

-- ---- the nodes of an arena that goes on

module _ (es fs : List Entry) (arena : IsArena es) (x : Extends es fs) (v : terms.Values) (fits : FitsArena es v) where
  by_kind : (id : ℕ) (n : Node) (k : NodeKind) (u : List Range) → own_id n ≡ id → IsSet u → FitsSort (subset_or_whole (is_set_kind k)) u (v.number id) (v.set id) → IsOfDomain v n k u
  by_kind id n kinds.Var u own s h = subst (λ i. Has u (v.number i)) (sym own) h
  by_kind id n kinds.Local u own s h = subst (λ i. Has u (v.number i)) (sym own) h
  by_kind id n kinds.SetVar u own s h = let w = subst (λ i. FitsSort Subset u (v.number i) (v.set i)) (sym own) h in record { set = (w.0, limited (v.set (own_id n)) u w.0 w.1 s.1); part = record { inside = w.1 } }
  by_kind id n kinds.SetLocal u own s h = let w = subst (λ i. FitsSort Subset u (v.number i) (v.set i)) (sym own) h in record { set = (w.0, limited (v.set (own_id n)) u w.0 w.1 s.1); part = record { inside = w.1 } }
  by_kind id n _ u own s h = tt

  not_free : (n : Node) (k : NodeKind) (u : List Range) → is_free k ≡ false → IsOfDomain v n k u
  not_free n kinds.Var u h = absurd (cc)
  not_free n kinds.Local u h = absurd (cc)
  not_free n kinds.SetVar u h = absurd (cc)
  not_free n kinds.SetLocal u h = absurd (cc)
  not_free n _ u h = tt

  -- VALUES that fit the arena lie in the domains of one that goes on from it
  pub fits_domains : AreInDomains fs v
  fits_domains id e d is over = by (is_free e.node.kind) refl
    where
      by : (b : Bool) → is_free e.node.kind ≡ b → IsOfDomain v e.node e.node.kind d.set
      by false h = not_free e.node e.node.kind d.set h
      by true h =
          let low = x.frees id e is h in
          let old : slice_get es id ≡ Some e = sym (x.grew.same id low) ∙ is in
          let f = fits id e old h in
          let c = (arena.domains id e old h).const in
          let e1 : f.over ≡ d = same_entry f.over d (slice_get fs e.node.a) (x.grew.same e.node.a (get-below es e.node.a f.over f.domain) ∙ f.domain) over in
          let e2 : c.there ≡ d = same_entry c.there d (slice_get fs e.node.a) (x.grew.same e.node.a (get-below es e.node.a c.there c.stands) ∙ c.stands) over in
          by_kind id e.node e.node.kind d.set (arena.own id e old h)
          (subst (λ (y : Entry). IsSet y.set) e2 (arena.canonical e.node.a c.there c.stands c.is))
          (subst (λ (y : Entry). FitsSort (subset_or_whole (is_set_kind e.node.kind)) y.set (v.number id) (v.set id)) e1 f.fits)

-- ---- the domains of a front's variables

abbrev domains_of : List Variable → List Domain
domains_of vs = map (λ (v : Variable). v.domain) vs

abbrev part_domain : Part → Domain
part_domain p = domain_by p.sort p.set

cell_domains : (scalar opt : Bool) (k : ℕ) (x : Name) (p : Part) → domains_of (cell_variables scalar opt k x p) ≡ map part_domain (parts_of opt p)
cell_domains scalar true k x p = refl
cell_domains scalar false k x p = refl

cells_domains : (m : ModelVar) (k : ℕ) (x : Name) (cs : List VarCell) → domains_of (variables_from m k x cs) ≡ map part_domain (flat_map (λ c. parts_of m.opt (value_part m c)) cs)
cells_domains m k x [] = refl
cells_domains m k x (c ∷ cs) =
    map-append (λ (v : Variable). v.domain) (cell_variables (is_none m.index) m.opt k x (value_part m c)) (variables_from m (suc k) x cs)
    ∙ ap₂ (λ a b. a ++ b) (cell_domains (is_none m.index) m.opt k x (value_part m c)) (cells_domains m (suc k) x cs)
    ∙ sym (map-append part_domain (parts_of m.opt (value_part m c)) (flat_map (λ c. parts_of m.opt (value_part m c)) cs))

pub front_domains : (table : List Name) (ms : List ModelVar) → domains_of (front_variables table ms) ≡ map part_domain (parts ms)
front_domains table [] = refl
front_domains table (m ∷ ms) =
    map-append (λ (v : Variable). v.domain) (variables_from m 1 (text_of table m.name) m.cells) (front_variables table ms)
    ∙ ap₂ (λ a b. a ++ b) (cells_domains m 1 (text_of table m.name) m.cells) (front_domains table ms)
    ∙ sym (map-append part_domain (var_parts m) (parts ms))

written_has : (u : List Range) (n : ℤ) → Has u n → Has (written_set u) n
written_has u n h = subst (λ w. Has w n) (sym (written_same u)) (by u h)
  where
    by : (u : List Range) → Has u n → Has (written u) n
    by [] h = absurd h
    by (r ∷ rs) h = h

truth_has : (u : List Range) (n : ℤ) → u ≡ truths → Has u n → (pos 0 ≤ℤ n) × (n ≤ℤ pos 1)
truth_has u n e h = by (subst (λ w. Has w n) e h)
  where
    by : Has truths n → (pos 0 ≤ℤ n) × (n ≤ℤ pos 1)
    by (inl i) = i
    by (inr i) = absurd i

value_inside : (sort : Sort) (u : List Range) (n : ℤ) (s : List Range) → IsTruthOver sort u → FitsSort (subset_or_whole (is_subset_sort sort)) u n s → IsInDomain (domain_by sort u) (value_by sort n s)
value_inside Whole u n s t h = written_has u n h
value_inside Truth u n s t h = truth_has u n t h
value_inside Subset u n s t h = h

module _ (es : List Entry) (v : terms.Values) (fits : FitsArena es v) where
  part_inside : (k i : ℕ) (p : Part) → IsNode es false k p i → instance.IsPart p → IsInDomain (part_domain p) (value_by p.sort (v.number i) (v.set i))
  part_inside k i p n h =
      let f = fits i n.there n.stands n.free in
      let over : f.over ≡ n.over = same_entry f.over n.over (slice_get es n.there.node.a) f.domain n.domain in
      let set : f.over.set ≡ p.set = ap (λ (e : Entry). e.set) over ∙ n.set in
      value_inside p.sort p.set (v.number i) (v.set i) h.truth
      (subst (λ u. FitsSort (subset_or_whole (is_subset_sort p.sort)) u (v.number i) (v.set i)) set
      (subst (λ b. FitsSort (subset_or_whole b) f.over.set (v.number i) (v.set i)) n.sort f.fits))

  -- THE FRONT'S VALUES lie in the domains of its variables
  pub front_inside : (k : ℕ) (vs : List Variable) (is : List ℕ) (ps : List Part) → domains_of vs ≡ map part_domain ps → AreNodes es false k is ps → AreParts ps → flat.AreInDomains vs (front_values ps is v)
  front_inside k [] is [] e n h = tt
  front_inside k [] is (p ∷ ps) e n h = absurd (cc)
  front_inside k (w ∷ vs) is [] e n h = absurd (cc)
  front_inside k (w ∷ vs) [] (p ∷ ps) e n h = absurd n
  front_inside k (w ∷ vs) (i ∷ is) (p ∷ ps) e n h =
      let first : w.domain ≡ part_domain p = cc in
      (subst (λ d. IsInDomain d (value_by p.sort (v.number i) (v.set i))) (sym first) (part_inside k i p n.0 h.0), front_inside (suc k) vs is ps (cc) n.1 h.1)

pub front_length : (es : List Entry) (v : terms.Values) (k : ℕ) (is : List ℕ) (ps : List Part) → AreNodes es false k is ps → length (front_values ps is v) ≡ length ps
front_length es v k [] [] n = refl
front_length es v k [] (p ∷ ps) n = absurd n
front_length es v k (i ∷ is) [] n = absurd n
front_length es v k (i ∷ is) (p ∷ ps) n = ap suc (front_length es v (suc k) is ps n.1)

-- ---- the node of a part

pub record HasPart (es : List Entry) (ps : List Part) (k n i : ℕ) : Type 0 where
  pub part : Part
  pub there_ : slice_get ps n ≡ Some part
  pub node_ : IsNode es false (k + n) part i

pub part_at : (es : List Entry) (is : List ℕ) (ps : List Part) (k n i : ℕ) → AreNodes es false k is ps → slice_get is n ≡ Some i → HasPart es ps k n i
part_at es [] ps k n i a h = absurd (cc)
part_at es (j ∷ is) [] k n i a h = absurd a
part_at es (j ∷ is) (p ∷ ps) k zero i a h =
    let e : j ≡ i = cc in
    record { part = p; there_ = refl; node_ = subst (λ m. IsNode es false m p i) (omega arith) (subst (IsNode es false k p) e a.0) }
part_at es (j ∷ is) (p ∷ ps) k (suc n) i a h =
    let r = part_at es is ps (suc k) n i a.1 h in
    record { part = r.part; there_ = r.there_; node_ = subst (λ m. IsNode es false m r.part i) (omega arith) r.node_ }
