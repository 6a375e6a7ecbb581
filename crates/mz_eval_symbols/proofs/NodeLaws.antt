-- Nodes as what they are made of.
use Rattle.std.proofs.Common.{◌≡◌, ◌∙◌, inl, inr, ℕ, ℤ, pos, Bool, true, false, List, map, Some, None, refl, ap, if◌then◌else◌}
use Rattle.mz_arena.specs.declared.node.Node.{Node}
use Rattle.mz_arena.specs.declared.node.NodeKind.TheVariants as kinds
use Rattle.mz_arena.specs.Entries.{Entry, children, is_free}
use Rattle.mz_arena.specs.Terms.{kind_term}
use Rattle.mz_arena.specs.Values.{Term, empty, guard_term, if_term, is_true, number, to_int_term}
use Rattle.mz_symbol.specs.Runs.{ReadsNodes}
use Rattle.mz_symbol.specs.Readings.{no_values}
use Rattle.mz_symbol_arrays.specs.Sure.{IsNode}
use Rattle.mz_symbol_arrays.proofs.SureLaws.{kind_read}
use Rattle.mz_eval_symbols.specs.declared.nodes.Branching.{Branching}
use Rattle.mz_eval_symbols.specs.declared.nodes.Pair.{Pair}
use Rattle.mz_eval_symbols.specs.declared.nodes.Pair.TheVariants as pair
use Rattle.mz_eval_symbols.specs.StepsNodes.{Counts, IsCount, IsIf, IsNot, IsPair, kind_of, two_term}

bound_pair : (w : Pair) → is_free (kind_of w) ≡ false
bound_pair pair.Access = refl
bound_pair pair.And = refl
bound_pair pair.Cons = refl
bound_pair pair.Equal = refl
bound_pair pair.Guard = refl
bound_pair pair.Or = refl

pair_term : (t : ℕ → Term) (x : Entry) (n : Node) (w : Pair) → kind_term no_values x (kind_of w) (map t (children (record { kind = kind_of w; a = n.a; b = n.b; c = n.c; number = n.number }))) ≡ two_term w (t n.a) (t n.b)
pair_term t x n pair.Access = refl
pair_term t x n pair.And = refl
pair_term t x n pair.Cons = refl
pair_term t x n pair.Equal = refl
pair_term t x n pair.Guard = refl
pair_term t x n pair.Or = refl

pub pair_read : (es : List Entry) (w : Pair) (id : ℕ) (n : Node) → IsNode es id n → n.kind ≡ kind_of w → IsPair es w id (n.a, n.b)
pair_read es w id n e f t h =
    let k = kind_read t es id n (kind_of w) e f (bound_pair w) h in
    k.term ∙ pair_term t k.entry n w

pub if_read : (es : List Entry) (id : ℕ) (n : Node) → IsNode es id n → n.kind ≡ kinds.If → IsIf es id (record { condition = n.a; first = n.b; second = n.c })
if_read es id n e f t h =
    let k = kind_read t es id n kinds.If e f refl h in
    k.term

pub not_read : (es : List Entry) (id : ℕ) (n : Node) → IsNode es id n → n.kind ≡ kinds.Not → IsNot es id n.a
not_read es id n e f t h =
    let k = kind_read t es id n kinds.Not e f refl h in
    k.term

pub false_read : (es : List Entry) (id : ℕ) (n : Node) → IsNode es id n → n.kind ≡ kinds.Bool → n.number ≡ pos 0 → (t : ℕ → Term) → ReadsNodes t es → is_true (t id) ≡ false
false_read es id n e f z t h =
    let k = kind_read t es id n kinds.Bool e f refl h in
    ap is_true (k.term ∙ ap (λ (m : Node). Some (number m.number)) k.is ∙ ap (λ (i : ℤ). Some (number i)) z)

pub nil_read : (es : List Entry) (id : ℕ) (n : Node) → IsNode es id n → n.kind ≡ kinds.Nil → (t : ℕ → Term) → ReadsNodes t es → t id ≡ Some empty
nil_read es id n e f t h =
    let k = kind_read t es id n kinds.Nil e f refl h in
    k.term

pub count_read : (es : List Entry) (id : ℕ) (n : Node) → IsNode es id n → n.kind ≡ kinds.ToInt → IsCount es id
unfolding to_int_term
count_read es id n e f t h =
    let k = kind_read t es id n kinds.ToInt e f refl h in
    inr (is_true (t n.a), k.term)

counts_if : (x y : Term) (q : Bool) → x ≡ (if q then y else None) → Counts y → Counts x
counts_if x y true e (inl n) = inl (e ∙ n)
counts_if x y true e (inr b) = inr (b.0, e ∙ b.1)
counts_if x y false e c = inl e

pub guard_counts : (es : List Entry) (id : ℕ) (p : ℕ × ℕ) → IsPair es pair.Guard id p → IsCount es p.1 → IsCount es id
unfolding guard_term
guard_counts es id p f c t h = counts_if (t id) (t p.1) (is_true (t p.0)) (f t h) (c t h)

pub zero_counts : (es : List Entry) (id : ℕ) (n : Node) → IsNode es id n → n.kind ≡ kinds.Int → n.number ≡ pos 0 → IsCount es id
zero_counts es id n e f z t h =
    let k = kind_read t es id n kinds.Int e f refl h in
    inr (false, k.term ∙ ap (λ (m : Node). Some (number m.number)) k.is ∙ ap (λ (i : ℤ). Some (number i)) z)

counts_either : (x y z : Term) (q : Bool) → x ≡ (if q then y else z) → Counts y → Counts z → Counts x
counts_either x y z true e (inl n) d = inl (e ∙ n)
counts_either x y z true e (inr b) d = inr (b.0, e ∙ b.1)
counts_either x y z false e c (inl n) = inl (e ∙ n)
counts_either x y z false e c (inr b) = inr (b.0, e ∙ b.1)

pub if_counts : (es : List Entry) (id : ℕ) (b : Branching) → IsIf es id b → IsCount es b.first → IsCount es b.second → IsCount es id
unfolding if_term
if_counts es id b f c d t h = counts_either (t id) (t b.first) (t b.second) (is_true (t b.condition)) (f t h) (c t h) (d t h)
