-- What the symbols of places stand for, where values have the numbers of their parts.
use Rattle.std.proofs.Common.{◌≡◌, ◌∙◌, ℕ, suc, ℤ, Bool, true, false, List, [], ◌∷◌, ◌++◌, map, Option, Some, None, is_some, refl, sym, ap, if◌then◌else◌}
use Rattle.mz_value.specs.Ranges.{Range}
use Rattle.mz_value.specs.Contents.{Content}
use Rattle.mz_value.specs.Contents as values
use Rattle.mz_core.specs.declared.types.Base.{Base}
use Rattle.mz_core.specs.declared.types.Base.TheVariants as base
use Rattle.mz_arena.specs.declared.node.NodeKind.{NodeKind}
use Rattle.mz_arena.specs.declared.node.NodeKind.TheVariants.{Var, Local, SetVar, SetLocal}
use Rattle.mz_arena.specs.Arenas.{IsArena}
use Rattle.mz_arena.specs.Entries.{Entry, children, is_free}
use Rattle.mz_arena.specs.FreeNodes.{is_set_kind}
use Rattle.mz_arena.specs.Numbering.{by_id}
use Rattle.mz_arena.specs.Terms.{kind_term, term, own_id}
use Rattle.mz_arena.specs.Values.{Values, Term, number, set, is_true}
use Rattle.mz_arena.proofs.Growing.{made, grew_same}
use Rattle.mz_instance.specs.Contents.{is_one, content_by}
use Rattle.mz_instance.specs.Laws.{AreSame, chosen_or_not}
use Rattle.mz_instance.specs.Parts.{Part, occurrence, parts_of, next, is_subset_sort, sort_of, IsNode, AreNodes}
use Rattle.mz_instance.proofs.Nodes.{nodes_same}
use Rattle.mz_symbol.specs.declared.types.Free.{Free}
use Rattle.mz_symbol.specs.Choices.{all_parts, cell_content, content_at}
use Rattle.mz_symbol.specs.Symbols.{with_id, value_by, value_at, symbol_value, domain_of, free_ids}

-- ---- the term of a part's node

abbrev free_term : Bool → Values → ℕ → Term
free_term true v i = Some (set (v.set i))
free_term false v i = Some (number (v.number i))

kind_free : (v : Values) (e : Entry) (k : NodeKind) (xs : List Term) → is_free k ≡ true → kind_term v e k xs ≡ free_term (is_set_kind k) v (own_id e.node)
kind_free v e Var xs free = refl
kind_free v e Local xs free = refl
kind_free v e SetVar xs free = refl
kind_free v e SetLocal xs free = refl
kind_free v e k xs free = absurd (cc)

part_term : (es : List Entry) (v : Values) (choice : Bool) (k : ℕ) (p : Part) (id : ℕ) → IsArena es → IsNode es choice k p id → term v es id ≡ free_term (is_subset_sort p.sort) v id
part_term es v choice k p id a n =
    (made es n.there id n.stands (a.ordered id n.there n.stands)).means v es (grew_same es)
    ∙ kind_free v n.there n.there.node.kind (map (term v es) (children n.there.node)) n.free
    ∙ ap (λ b. free_term b v (own_id n.there.node)) n.sort
    ∙ ap (free_term (is_subset_sort p.sort) v) n.own

-- ---- the value of a place

base_value : (b : Base) (t : Term) (z v : Values) (k id : ℕ) → t ≡ free_term (is_subset_sort (sort_of b)) v id → z.number k ≡ v.number id → z.set k ≡ v.set id → value_by b t ≡ Some (content_by b (z.number k) (z.set k))
base_value base.SetInt t z v k id is numbers sets = ap (value_by base.SetInt) is ∙ ap (λ s. Some (values.set None s)) (sym sets)
base_value (base.SetEnum e) t z v k id is numbers sets = ap (value_by (base.SetEnum e)) is ∙ ap (λ s. Some (values.set (Some e) s)) (sym sets)
base_value b t z v k id is numbers sets = ap (value_by b) is ∙ ap (λ n. Some (content_by b n [])) (sym numbers)

occurring_value : (b : Base) (o t : Term) (n : ℤ) (c : Content) → o ≡ Some (number n) → value_by b t ≡ Some c → (if is_true o then value_by b t else Some values.absent) ≡ Some (if is_one n then c else values.absent)
occurring_value b o t n c is there = ap (λ o. if is_true o then value_by b t else Some values.absent) is ∙ by (is_one n)
  where
    by : (q : Bool) → (if q then value_by b t else Some values.absent) ≡ Some (if q then c else values.absent)
    by true = there
    by false = refl

-- a place has the value of its parts, and the places after it have their nodes
record PlaceHas (es : List Entry) (v z : Values) (choice : Bool) (k : ℕ) (b : Base) (o : Option ℕ) (id : ℕ) (is : List ℕ) (ps : List Part) : Type 0 where
  value : value_at (λ i. term v es i) b o id ≡ Some (content_at (is_some o) b k z)
  nodes : AreNodes es choice (next (is_some o) k) is ps
  same : AreSame z v (next (is_some o) k) is

abbrev part_over : Base → List Range → Part
part_over b u = record { sort = sort_of b; set = u }

place_has : (es : List Entry) (v z : Values) (choice : Bool) (k : ℕ) (b : Base) (u : List Range) (o : Option ℕ) (id : ℕ) (is : List ℕ) (ps : List Part) → IsArena es → AreNodes es choice k (with_id o (id ∷ []) ++ is) (parts_of (is_some o) (part_over b u) ++ ps) → AreSame z v k (with_id o (id ∷ []) ++ is) → PlaceHas es v z choice k b o id is ps
place_has es v z choice k b u None id is ps a n s = record {
  value = base_value b (term v es id) z v k id (part_term es v choice k (part_over b u) id a n.0) s.0 s.1;
  nodes = n.1;
  same = s.2;
}
place_has es v z choice k b u (Some o) id is ps a n s = record {
  value = occurring_value b (term v es o) (term v es id) (z.number k) (content_by b (z.number (suc k)) (z.set (suc k)))
      (part_term es v choice k occurrence o a n.0 ∙ ap (λ n. Some (number n)) (sym s.0))
      (base_value b (term v es id) z v (suc k) id (part_term es v choice (suc k) (part_over b u) id a n.1.0) s.2.0 s.2.1);
  nodes = n.1.1;
  same = s.2.2;
}

-- ---- all places

-- each place has the value of its parts, the first of which has the number k
abbrev pub PlacesHave : (ℕ → Term) → List Free → ℕ → Values → Type 0
PlacesHave t [] k z = Unit {0}
PlacesHave t (f ∷ fs) k z = (symbol_value t f.symbol ≡ Some (cell_content (domain_of f) k z)) × PlacesHave t fs (next (domain_of f).opt k) z

places_have : (es : List Entry) (v z : Values) (choice : Bool) (k : ℕ) (fs : List Free) → IsArena es → AreNodes es choice k (free_ids fs) (all_parts (map domain_of fs)) → AreSame z v k (free_ids fs) → PlacesHave (λ i. term v es i) fs k z
places_have es v z choice k [] a n s = tt
places_have es v z choice k (f ∷ fs) a n s =
    let here = place_has es v z choice k f.symbol.base f.set f.symbol.occurs f.symbol.term (free_ids fs) (all_parts (map domain_of fs)) a n s in
    (here.value, places_have es v z choice (next (is_some f.symbol.occurs) k) fs a here.nodes here.same)

pub places_told : (es : List Entry) (x y : Values) (choice : Bool) (k : ℕ) (fs : List Free) → IsArena es → AreNodes es choice k (free_ids fs) (all_parts (map domain_of fs)) → PlacesHave (λ i. term (by_id es x y) es i) fs k (chosen_or_not choice x y)
places_told es x y choice k fs a n = places_have es (by_id es x y) (chosen_or_not choice x y) choice k fs a n (nodes_same es choice x y k (free_ids fs) (all_parts (map domain_of fs)) n)
