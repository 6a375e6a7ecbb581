-- The lists in a `Vec` of `Vec`s, before and after a write.
use Rattle.std.proofs.Common.{◌≡◌, ℕ, ◌<◌, ◌≤◌, List, [], Vec, ap, sym, ◌∙◌, length, get_or, set, subst, arith}
use Rattle.std.proofs.lemmas.List.{map-set, length-map, get_or-map, get_or-set_same, get_or-set_other}
use Rattle.mz_graph.specs.Graph.{Graph, graph_of, heads}

pub written : {Z : Type 0} (vs : List (Vec ℕ Z)) (i : ℕ) (v : Vec ℕ Z) (ys : List ℕ) → v.items ≡ ys → graph_of (set vs i v) ≡ set (graph_of vs) i ys
written vs i v ys e = map-set (λ w. w.items) vs i v ∙ ap (λ z. set (graph_of vs) i z) e

pub as_many : {Z : Type 0} (vs : List (Vec ℕ Z)) → length (graph_of vs) ≡ length vs
as_many vs = length-map vs (λ w. w.items)

pub row_read : {Z : Type 0} (vs : List (Vec ℕ Z)) (i : ℕ) (v : Vec ℕ Z) → i < length vs → v ≡ get_or vs i v → heads (graph_of vs) i ≡ v.items
row_read vs i v h e = get_or-map (λ w. w.items) vs i v [] h ∙ ap (λ w. w.items) (sym e)

pub row_kept : (g : Graph) (i j : ℕ) (ys : List ℕ) → (j ≡ i → ⊥) → heads (set g i ys) j ≡ heads g j
row_kept g i j ys n = get_or-set_other g i j ys [] n

pub row_now : (g : Graph) (i : ℕ) (ys : List ℕ) → i < length g → heads (set g i ys) i ≡ ys
row_now g i ys h = get_or-set_same g i ys [] h

-- Bounds on plain numbers: `omega` reads all facts in scope, and these are cited where many graphs are

pub below_as : {a b c : ℕ} → a < b → c ≡ b → a < c
below_as {a} h e = subst (λ z. a < z) (sym e) h

pub upto_as : {a b c : ℕ} → a ≤ b → c ≡ a → c ≤ b
upto_as {b = b} h e = subst (λ z. z ≤ b) (sym e) h

pub below_upto : {a b c : ℕ} → a < b → b ≤ c → a < c
below_upto h k = omega (arith, h, k)

pub none_below : {a b : ℕ} → a < b → b ≡ 0 → ⊥
none_below h e = absurd (omega (arith, h, e))

pub upto_of : {a b : ℕ} → a < b → a ≤ b
upto_of h = omega (arith, h)
