-- What the calls that make nodes give.
use Rattle.std.proofs.Common.{◌≡◌, ◌≢◌, ℕ, ◌<◌, arith, ℤ, List, [], length, take, Bool, true, Some, slice_get, refl, sym, ap, subst, ◌∙◌}
use Rattle.mz_interval.specs.Ends.{Ends, is_number}
use Rattle.mz_arena.specs.declared.node.Node.{Node}
use Rattle.mz_arena.specs.declared.node.NodeKind.{NodeKind}
use Rattle.mz_arena.specs.declared.node.NodeKind.TheVariants.{Int, Bool as BoolNode}
use Rattle.mz_arena.specs.Entries.{Entry, entry, arity, children}
use Rattle.mz_arena.specs.Values.{number, Values, bit}
use Rattle.mz_arena.specs.Terms.{term}
use Rattle.mz_arena.specs.Extents.{whole, truth, bool_extent, kind_extent}
use Rattle.mz_arena.specs.Arenas.{IsArena, HasAtMost, Grew, Extends, Made}
use Rattle.mz_arena.proofs.Folds.{get-below}
use Rattle.mz_partial.specs.Costs.{cost_of}
use Rattle.mz_partial.specs.Totals.{SaysAt, Has}
use Rattle.mz_partial.specs.Nodes.{IsNode, Placed, MayRemake, Remade, three}
use Rattle.mz_partial.specs.Calls.{IsNumber, IsConstant}
use Rattle.mz_partial.proofs.Standing.{node_means, node_bounds, node_total, node_as, extends_same}
use Rattle.mz_partial.proofs.Costing.{at_most_costs}
use Rattle.mz_partial.proofs.Asked.{number_bounds}
use Rattle.mz_partial.proofs.Saying.{some_is}

pub placed : (old new : List Entry) (n : Node) (id : ℕ) → Extends old new → IsArena new → Made new (entry n) id → HasAtMost old new (entry n) → Placed old new n.kind (children n) id
placed old new n id e a m h = record {
  extends = e;
  arena = a;
  node = record { there = entry n; stands = m.stands; kind = refl; kids = refl };
  cost = at_most_costs old new (entry n) h;
}

pub remade_same : (es : List Entry) (id : ℕ) (n : Node) (is : List ℕ) → MayRemake es id n (take (arity n.kind) is) → is ≡ three n.a n.b n.c → Remade es es id n is id
remade_same es id n is m h = record {
  extends = extends_same es;
  arena = m.arena;
  node = node_as es id n.kind (children n) (take (arity n.kind) is) (ap (take (arity n.kind)) (sym h)) m.node;
  cost = omega arith;
  own = λ p. (refl, refl);
}

pub remade : (old new : List Entry) (id : ℕ) (n : Node) (is : List ℕ) (t : ℕ) → Placed old new n.kind (take (arity n.kind) is) t → is ≢ three n.a n.b n.c → Remade old new id n is t
remade old new id n is t p other = record {
  extends = p.extends;
  arena = p.arena;
  node = p.node;
  cost = p.cost;
  own = λ h. absurd (other h);
}

-- ---- constants

number_node : (es : List Entry) (t : ℕ) (n : Node) → IsArena es → (h : IsNode es t Int []) → h.there ≡ entry n → is_number n.number ≡ true → Has es t (Some (whole (n.number, n.number))) (λ v. number n.number)
number_node es t n a h e limit =
    let is : (v : Values) → term v es t ≡ Some (number n.number) = λ v. node_means es t Int [] a h v ∙ ap (λ (d : Entry). Some (number d.node.number)) e in
    record {
      total = node_total es t Int [] h tt (λ v i. some_is (term v es t) _ (is v));
      bounds = node_bounds es t Int [] a h ∙ ap (λ (d : Entry). kind_extent d Int []) e ∙ number_bounds n.number limit;
      is = λ v i. is v;
    }

truth_node : (es : List Entry) (t : ℕ) (n : Node) (b : Bool) (e : Ends) → IsArena es → (h : IsNode es t BoolNode []) → h.there ≡ entry n → Some (number n.number) ≡ bit b → bool_extent n.number ≡ Some (truth e) → SaysAt es t (λ v. b)
truth_node es t n b e a h same is_bit bounds =
    let is : (v : Values) → term v es t ≡ bit b = λ v. node_means es t BoolNode [] a h v ∙ ap (λ (d : Entry). Some (number d.node.number)) same ∙ is_bit in
    record {
      truth = record { ends = e; is = node_bounds es t BoolNode [] a h ∙ ap (λ (d : Entry). kind_extent d BoolNode []) same ∙ bounds };
      total = node_total es t BoolNode [] h tt (λ v i. some_is (term v es t) _ (is v));
      is = λ v i. is v;
    }

abbrev IsThere : List Entry → ℕ → Node → Type 0
IsThere es t n = slice_get es t ≡ Some (entry n)

abbrev stands_as : (old new : List Entry) (id : ℕ) (n : Node) (k : NodeKind) → Grew old new → id < length old → n.kind ≡ k → slice_get old id ≡ Some (entry n) → take (arity k) (three n.a n.b n.c) ≡ [] → IsNode new id k []
stands_as old new id n k g l kind h c = record { there = entry n; stands = g.same id l ∙ h; kind = kind; kids = ap (λ j. take (arity j) (three n.a n.b n.c)) kind ∙ c }

pub number_placed : (old new : List Entry) (n : Node) (t : ℕ) (m : ℤ) → n.kind ≡ Int → n.number ≡ m → is_number m ≡ true → Placed old new n.kind (children n) t → IsThere new t n → IsNumber old new m t
number_placed old new n t m k e limit p h = subst (λ i. IsNumber old new i t) e (record {
  extends = p.extends;
  arena = p.arena;
  cost = omega (arith, p.cost, ap cost_of k);
  has = λ fs g a. number_node fs t n a (stands_as new fs t n Int g (get-below new t (entry n) h) k h refl) refl (ap is_number e ∙ limit);
})

pub constant_placed : (old new : List Entry) (n : Node) (t : ℕ) (b : Bool) (e : Ends) → n.kind ≡ BoolNode → Some (number n.number) ≡ bit b → bool_extent n.number ≡ Some (truth e) → Placed old new n.kind (children n) t → IsThere new t n → IsConstant old new b t
constant_placed old new n t b e k is bounds p h = record {
  extends = p.extends;
  arena = p.arena;
  cost = omega (arith, p.cost, ap cost_of k);
  says = λ fs g a. truth_node fs t n b e a (stands_as new fs t n BoolNode g (get-below new t (entry n) h) k h refl) refl is bounds;
}
