-- Parts id by id, and the pairs that they give.
use Rattle.std.proofs.Common.{◌≡◌, ℕ, suc, ◌<◌, ◌≤◌, List, [], ◌∷◌, ◌++◌, length, true, Some, None, IsSome, option_map, slice_get, inl, inr, refl, sym, ap, subst, ◌∙◌, arith, length-append}
use Rattle.std.proofs.lemmas.Bool.{cases_lt}
use Rattle.mz_arena.specs.declared.node.Node.{Node}
use Rattle.mz_arena.specs.Entries.{Entry}
use Rattle.mz_arena.specs.Values.{bit}
use Rattle.mz_arena.specs.Extents.{Known, extent}
use Rattle.mz_arena.specs.Arenas.{IsArena, Grew}
use Rattle.mz_arena.proofs.Folds.{get-append, get-last, get-below}
use Rattle.mz_arena.proofs.Growing.{grew_same, extent_there}
use Rattle.mz_partial.specs.declared.part.Part.{Part}
use Rattle.mz_partial.specs.declared.memo.Pair.{Pair}
use Rattle.mz_partial.specs.declared.group.Group.{Group}
use Rattle.mz_partial.specs.Groups.{group_of}
use Rattle.mz_partial.specs.Totals.{IsPart, AreParts, Parted, Filled, Paired, Totaled, CostsWithin}
use Rattle.mz_partial.specs.Nodes.{Takes}
use Rattle.mz_partial.specs.Calls.{IsConstant}
use Rattle.mz_partial.proofs.Standing.{node_of, extends_same, extends_both, extent_in, part_later, total_in}
use Rattle.mz_partial.proofs.Costing.{next_cost, take_later}
use Rattle.mz_partial.proofs.Saying.{says_by}

pub takes : (es : List Entry) (memo : List Part) (id : ℕ) (n : Node) (g : Group) → IsArena es → AreParts es memo → id ≤ length memo → option_map (λ e. e.node) (slice_get es id) ≡ Some n → group_of n.kind ≡ g → Takes es memo id n g
takes es memo id n g a p r h k = record { arena = a; parts = p; reach = r; node = node_of es id n h; kind = k }

-- an id with a part is in the arena
pub part_in : (es : List Entry) (id : ℕ) (p : Part) → IsArena es → IsPart es id p → id < length es
part_in es id p a h =
    let there : IsSome (extent es id) = subst (λ (x : Known). IsSome x) h.kept.bounds (extent_there es p.term a (total_in es p.term h.kept.total)) in
    extent_in es id (extent es id) there refl

pub parts_later : (old new : List Entry) (memo : List Part) → Grew old new → IsArena old → AreParts old memo → AreParts new memo
parts_later old new memo g a h = λ i p there. let q = h i p there in part_later old new i p g a (part_in old i p a q) q

next_length : (memo next : List Part) (p : Part) → next ≡ memo ++ p ∷ [] → length next ≡ suc (length memo)
next_length memo next p h = ap length h ∙ length-append memo (p ∷ []) ∙ omega arith

-- one part more
pub filled_next : (old new : List Entry) (memo next : List Part) (p : Part) → IsArena old → AreParts old memo → length memo < length old → Parted old new (length memo) p → next ≡ memo ++ p ∷ [] → Filled old new (length memo) next
filled_next old new memo next p a h place m same = record {
  cost = subst (λ j. CostsWithin old new (length memo) j) (sym (next_length memo next p same)) (next_cost old new (length memo) m.extends.grew place m.cost);
  extends = m.extends;
  arena = m.arena;
  parts = λ i q there. at i q (ap (λ qs. slice_get qs i) (sym same) ∙ there);
}
  where
    some_in : {x y : Part} → Some x ≡ Some y → x ≡ y
    some_in e = cc

    at : (i : ℕ) (q : Part) → slice_get (memo ++ p ∷ []) i ≡ Some q → IsPart new i q
    at i q there = elim (cases_lt i (length memo)) [
      | inl l ↦ parts_later old new memo m.extends.grew a h i q (sym (get-append memo (p ∷ []) i l) ∙ there)
      | inr l ↦
          let below = get-below (memo ++ p ∷ []) i q there in
          let last : i ≡ length memo = omega (arith, l, below, length-append memo (p ∷ [])) in
          let equal : p ≡ q = some_in (sym (get-last memo p) ∙ ap (slice_get (memo ++ p ∷ [])) (sym last) ∙ there) in
          subst (λ j. IsPart new j q) (sym last) (subst (λ (x : Part). IsPart new (length memo) x) equal m.part)
    ]

pub filled_first : (es : List Entry) (memo : List Part) → IsArena es → AreParts es memo → Filled es es (length memo) memo
filled_first es memo a h = record { cost = omega arith; extends = extends_same es; arena = a; parts = h }

pub filled_both : (old mid new : List Entry) (n : ℕ) (memo next : List Part) → Filled old mid n memo → Filled mid new (length memo) next → Filled old new n next
filled_both old mid new n memo next f g = record { cost = omega (arith, f.cost, g.cost); extends = extends_both old mid new f.extends g.extends; arena = g.arena; parts = g.parts }

pub filled_place : (old new : List Entry) (n : ℕ) (memo : List Part) (id : ℕ) → Filled old new n memo → id < length old → length memo ≤ id → length memo < length new
filled_place old new n memo id f l h = omega (arith, l, h, f.extends.grew.longer)

-- ---- pairs

pub pair_some : (es : List Entry) (id : ℕ) (p : Part) (d : ℕ) → IsArena es → IsPart es id p → p.flag ≡ Some d → Paired es es id (record { defined = d; term = p.term })
pair_some es id p d a h f =
    let s = says_by es p.flag (Some d) h.holds f h.flag in
    record {
      cost = omega arith;
      extends = extends_same es;
      pair = record {
        truth = s.truth;
        defined = s.total;
        total = h.kept.total;
        bounds = h.kept.bounds;
        splits = λ v b. record { holds = h.holds v; value = h.value v; is_defined = s.is v b; has_value = h.kept.is v b; is_old = h.is v b };
        own = λ w. (h.own w).1;
      };
    }

pub pair_none : (old new : List Entry) (id : ℕ) (p : Part) (d : ℕ) → IsArena old → IsPart old id p → p.flag ≡ None → IsConstant old new true d → Paired old new id (record { defined = d; term = p.term })
pair_none old new id p d a h f c =
    let n = part_later old new id p c.extends.grew a (part_in old id p a h) h in
    let s = c.says new (grew_same new) c.arena in
    let all = says_by new p.flag None n.holds f n.flag in
    record {
      cost = omega (arith, c.cost);
      extends = c.extends;
      pair = record {
        truth = s.truth;
        defined = s.total;
        total = n.kept.total;
        bounds = n.kept.bounds;
        splits = λ v b. record { holds = n.holds v; value = n.value v; is_defined = s.is v b ∙ ap bit (sym (all v b)); has_value = n.kept.is v b; is_old = n.is v b };
        own = λ w. (n.own w).1;
      };
    }

pub totaled_both : (old mid new : List Entry) (n : ℕ) (memo : List Part) (id : ℕ) (p : Pair) → Filled old mid n memo → Paired mid new id p → Totaled old new id p
totaled_both old mid new n memo id p f t = record { extends = extends_both old mid new f.extends t.extends; pair = t.pair }

pub costs_both : (old mid new : List Entry) (n : ℕ) (memo : List Part) (id : ℕ) (p : Pair) → Filled old mid n memo → Paired mid new id p → CostsWithin old new n (length memo)
costs_both old mid new n memo id p f t = omega (arith, f.cost, t.cost, take_later (length memo) mid new t.extends.grew)
