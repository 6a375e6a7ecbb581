-- Nodes that have a value wherever they are read.
use Rattle.std.proofs.Common.{◌≡◌, ◌∙◌, ℕ, ℤ, pos, Bool, true, false, List, [], ◌∷◌, map, slice_get, Option, Some, None, IsSome, refl, sym, ap, subst, if◌then◌else◌}
use Rattle.std.specs.Option.{option_map}
use Rattle.mz_value.specs.Ranges.{Range, cardinality}
use Rattle.mz_operations.specs.declared.row.Arith.TheVariants as arith_row
use Rattle.mz_operations.specs.declared.row.Sign.TheVariants as sign_row
use Rattle.mz_operations.specs.Numbers.{computed, signed}
use Rattle.mz_operations.specs.Views.{◌>>=◌}
use Rattle.mz_arena.specs.declared.node.Node.{Node}
use Rattle.mz_arena.specs.declared.node.NodeKind.{NodeKind}
use Rattle.mz_arena.specs.declared.node.NodeKind.TheVariants as kinds
use Rattle.mz_arena.specs.Entries.{Entry, children, is_free}
use Rattle.mz_arena.specs.FreeNodes.{is_set_kind}
use Rattle.mz_arena.specs.Terms.{kind_term, node_term}
use Rattle.mz_arena.specs.Values.{Term, and_term, arith_term, as_number, as_set, card_term, comparison_term, if_term, iff_term, is_true, member_term, not_term, number, or_term, set_comparison_term, sign_term, to_int_term}
use Rattle.mz_symbol.specs.Runs.{HasValue, ReadsNodes}
use Rattle.mz_symbol.specs.Readings.{no_values}
use Rattle.mz_symbol_arrays.specs.Sure.{IsNode, IsSure, IsSureSet, Suffice, is_sure_kind, is_sure_set}

-- ---- a node of a kind

-- the term of a node that isn't free
pub record IsKind (t : ℕ → Term) (id : ℕ) (n : Node) (k : NodeKind) : Type 0 where
  pub entry : Entry
  pub is : entry.node ≡ n
  pub term : t id ≡ kind_term no_values entry k (map t (children (record { kind = k; a = n.a; b = n.b; c = n.c; number = n.number })))

by_kind : (t : ℕ → Term) (x : Entry) (n : Node) (k : NodeKind) → x.node ≡ n → n.kind ≡ k → node_term no_values x (map t (children x.node)) ≡ kind_term no_values x k (map t (children (record { kind = k; a = n.a; b = n.b; c = n.c; number = n.number })))
by_kind t x n k e f =
    ap (λ (m : Node). kind_term no_values x m.kind (map t (children m))) e
    ∙ ap (λ (q : NodeKind). kind_term no_values x q (map t (children (record { kind = q; a = n.a; b = n.b; c = n.c; number = n.number })))) f

entry_read : (t : ℕ → Term) (es : List Entry) (id : ℕ) (n : Node) (k : NodeKind) (o : Option Entry) → slice_get es id ≡ o → option_map (λ e. e.node) o ≡ Some n → n.kind ≡ k → is_free k ≡ false → ReadsNodes t es → IsKind t id n k
entry_read t es id n k None s e f b h = absurd (cc)
entry_read t es id n k (Some x) s e f b h =
    let same : x.node ≡ n = cc in
    let kind : x.node.kind ≡ k = ap (λ y. y.kind) same ∙ f in
    record { entry = x; is = same; term = h.kinds id x s (ap is_free kind ∙ b) no_values ∙ by_kind t x n k same f }

pub kind_read : (t : ℕ → Term) (es : List Entry) (id : ℕ) (n : Node) (k : NodeKind) → IsNode es id n → n.kind ≡ k → is_free k ≡ false → ReadsNodes t es → IsKind t id n k
kind_read t es id n k e f b h = entry_read t es id n k (slice_get es id) refl e f b h

free_read : (t : ℕ → Term) (es : List Entry) (id : ℕ) (n : Node) (k : NodeKind) (o : Option Entry) → slice_get es id ≡ o → option_map (λ e. e.node) o ≡ Some n → n.kind ≡ k → is_free k ≡ true → ReadsNodes t es → HasValue (is_set_kind k) (t id)
free_read t es id n k None s e f b h = absurd (cc)
free_read t es id n k (Some x) s e f b h =
    let same : x.node ≡ n = cc in
    let kind : x.node.kind ≡ k = ap (λ y. y.kind) same ∙ f in
    subst (λ q. HasValue (is_set_kind q) (t id)) kind (h.frees id x s (ap is_free kind ∙ b))

-- ---- by its kind alone

kind_some : (x : Entry) (k : NodeKind) (n : Node) (t : ℕ → Term) → is_sure_kind k ≡ true → is_free k ≡ false → IsSome (as_number (kind_term no_values x k (map t (children (record { kind = k; a = n.a; b = n.b; c = n.c; number = n.number })))))
unfolding and_term comparison_term iff_term member_term not_term or_term set_comparison_term to_int_term
kind_some x kinds.Int n t h f = refl
kind_some x kinds.Bool n t h f = refl
kind_some x kinds.Var n t h f = absurd (cc)
kind_some x kinds.Local n t h f = absurd (cc)
kind_some x kinds.ToInt n t h f = refl
kind_some x kinds.Eq n t h f = refl
kind_some x kinds.Ne n t h f = refl
kind_some x kinds.Le n t h f = refl
kind_some x kinds.Lt n t h f = refl
kind_some x kinds.And n t h f = refl
kind_some x kinds.Or n t h f = refl
kind_some x kinds.Not n t h f = refl
kind_some x kinds.Iff n t h f = refl
kind_some x kinds.Member n t h f = refl
kind_some x kinds.SetEq n t h f = refl
kind_some x kinds.Subset n t h f = refl
kind_some x k n t h f = absurd (cc)

free_number : (k : NodeKind) → is_sure_kind k ≡ true → is_free k ≡ true → is_set_kind k ≡ false
free_number kinds.Var h f = refl
free_number kinds.Local h f = refl
free_number k h f = absurd (cc)

pub kind_sure : (es : List Entry) (id : ℕ) (n : Node) → IsNode es id n → is_sure_kind n.kind ≡ true → IsSure es id
kind_sure es id n e h t r = by (is_free n.kind) refl
  where
    by : (b : Bool) → is_free n.kind ≡ b → IsSome (as_number (t id))
    by true f = subst (λ q. HasValue q (t id)) (free_number n.kind h f) (free_read t es id n n.kind (slice_get es id) refl e refl f r)
    by false f =
        let k = kind_read t es id n n.kind e refl f r in
        subst (λ u. IsSome (as_number u)) (sym k.term) (kind_some k.entry n.kind n t h f)

-- ---- sets

set_some : (x : Entry) (k : NodeKind) (n : Node) (t : ℕ → Term) → is_sure_set k ≡ true → is_free k ≡ false → IsSome (as_set (kind_term no_values x k (map t (children (record { kind = k; a = n.a; b = n.b; c = n.c; number = n.number })))))
set_some x kinds.SetConst n t h f = refl
set_some x kinds.SetVar n t h f = absurd (cc)
set_some x kinds.SetLocal n t h f = absurd (cc)
set_some x k n t h f = absurd (cc)

free_set : (k : NodeKind) → is_sure_set k ≡ true → is_free k ≡ true → is_set_kind k ≡ true
free_set kinds.SetVar h f = refl
free_set kinds.SetLocal h f = refl
free_set k h f = absurd (cc)

pub set_sure : (es : List Entry) (id : ℕ) (n : Node) → IsNode es id n → is_sure_set n.kind ≡ true → IsSureSet es id
set_sure es id n e h t r = by (is_free n.kind) refl
  where
    by : (b : Bool) → is_free n.kind ≡ b → IsSome (as_set (t id))
    by true f = subst (λ q. HasValue q (t id)) (free_set n.kind h f) (free_read t es id n n.kind (slice_get es id) refl e refl f r)
    by false f =
        let k = kind_read t es id n n.kind e refl f r in
        subst (λ u. IsSome (as_set u)) (sym k.term) (set_some k.entry n.kind n t h f)

sized : (o : Option (List Range)) → IsSome o → IsSome (as_number (o >>= λ s. Some (number (pos (cardinality s)))))
sized None h = absurd (cc)
sized (Some s) h = refl

card_some : (u : Term) → IsSome (as_set u) → IsSome (as_number (card_term u))
unfolding card_term
card_some u h = sized (as_set u) h

pub card_sure : (es : List Entry) (id : ℕ) (n : Node) → IsNode es id n → n.kind ≡ kinds.Card → IsSureSet es n.a → IsSure es id
card_sure es id n e f s t r = subst (λ u. IsSome (as_number u)) (sym (kind_read t es id n kinds.Card e f refl r).term) (card_some (t n.a) (s t r))

-- ---- by its parts

added : (o p : Option ℤ) → IsSome o → IsSome p → IsSome (as_number (o >>= λ i. p >>= λ j. computed arith_row.Add i j >>= λ n. Some (number n)))
unfolding computed
added None p h g = absurd (cc)
added (Some i) None h g = absurd (cc)
added (Some i) (Some j) h g = refl

multiplied : (o p : Option ℤ) → IsSome o → IsSome p → IsSome (as_number (o >>= λ i. p >>= λ j. computed arith_row.Mul i j >>= λ n. Some (number n)))
unfolding computed
multiplied None p h g = absurd (cc)
multiplied (Some i) None h g = absurd (cc)
multiplied (Some i) (Some j) h g = refl

signed_some : (o : Option ℤ) → IsSome o → IsSome (as_number (o >>= λ i. Some (number (signed sign_row.Abs i))))
signed_some None h = absurd (cc)
signed_some (Some i) h = refl

either_some : (b : Bool) (y z : Term) → IsSome (as_number y) → IsSome (as_number z) → IsSome (as_number (if b then y else z))
either_some true y z h g = h
either_some false y z h g = g

add_some : (x y : Term) → IsSome (as_number x) → IsSome (as_number y) → IsSome (as_number (arith_term arith_row.Add x y))
unfolding arith_term
add_some x y h g = added (as_number x) (as_number y) h g

mul_some : (x y : Term) → IsSome (as_number x) → IsSome (as_number y) → IsSome (as_number (arith_term arith_row.Mul x y))
unfolding arith_term
mul_some x y h g = multiplied (as_number x) (as_number y) h g

abs_some : (x : Term) → IsSome (as_number x) → IsSome (as_number (sign_term sign_row.Abs x))
unfolding sign_term
abs_some x h = signed_some (as_number x) h

if_some : (x y z : Term) → IsSome (as_number y) → IsSome (as_number z) → IsSome (as_number (if_term x y z))
unfolding if_term
if_some x y z h g = either_some (is_true x) y z h g

pub add_sure : (es : List Entry) (id : ℕ) (n : Node) → IsNode es id n → n.kind ≡ kinds.Add → Suffice es id (n.a, n.b)
add_sure es id n e f t r h g = subst (λ u. IsSome (as_number u)) (sym (kind_read t es id n kinds.Add e f refl r).term) (add_some (t n.a) (t n.b) h g)

pub mul_sure : (es : List Entry) (id : ℕ) (n : Node) → IsNode es id n → n.kind ≡ kinds.Mul → Suffice es id (n.a, n.b)
mul_sure es id n e f t r h g = subst (λ u. IsSome (as_number u)) (sym (kind_read t es id n kinds.Mul e f refl r).term) (mul_some (t n.a) (t n.b) h g)

pub abs_sure : (es : List Entry) (id : ℕ) (n : Node) → IsNode es id n → n.kind ≡ kinds.Abs → Suffice es id (n.a, n.a)
abs_sure es id n e f t r h g = subst (λ u. IsSome (as_number u)) (sym (kind_read t es id n kinds.Abs e f refl r).term) (abs_some (t n.a) h)

pub if_sure : (es : List Entry) (id : ℕ) (n : Node) → IsNode es id n → n.kind ≡ kinds.If → Suffice es id (n.b, n.c)
if_sure es id n e f t r h g = subst (λ u. IsSome (as_number u)) (sym (kind_read t es id n kinds.If e f refl r).term) (if_some (t n.a) (t n.b) (t n.c) h g)
