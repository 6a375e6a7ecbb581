-- What is known of nodes before a solver runs.
use Rattle.std.proofs.Common.{◌≡◌, ◌∙◌, ℕ, ℤ, ◌+ℤ◌, ◌*ℤ◌, pos, Bool, true, false, not, ◌&&◌, ◌||◌, List, ◌∷◌, map, Option, Some, None, IsSome, refl, sym, ap, subst, arith}
use Rattle.std.proofs.lemmas.Int.{ints}
use Rattle.std.specs.Ordering.{int_eq}
use Rattle.mz_operations.specs.declared.row.Arith.TheVariants as arith_row
use Rattle.mz_operations.specs.Numbers.{computed}
use Rattle.mz_operations.specs.Views.{◌>>=◌}
use Rattle.mz_arena.specs.declared.node.Node.{Node}
use Rattle.mz_arena.specs.declared.node.NodeKind.{NodeKind}
use Rattle.mz_arena.specs.declared.node.NodeKind.TheVariants as kinds
use Rattle.mz_arena.specs.Entries.{Entry, children, is_free}
use Rattle.mz_arena.specs.Terms.{kind_term}
use Rattle.mz_arena.specs.Values.{Term, and_term, arith_term, as_number, bit, comparison_term, iff_term, is_true, member_term, not_term, number, or_term, set_comparison_term}
use Rattle.mz_symbol.specs.Runs.{ReadsNodes, Run}
use Rattle.mz_symbol.specs.Readings.{Reading, Reads, no_values}
use Rattle.mz_symbol_arrays.specs.Sure.{IsNode, IsSure}
use Rattle.mz_symbol_arrays.proofs.SureLaws.{kind_read}
use Rattle.glob_nodes.specs.declared.known.Known.{Known}
use Rattle.glob_nodes.specs.declared.nodes.Compare.{Compare}
use Rattle.glob_nodes.specs.declared.nodes.Compare.TheVariants.{Equal, Differ, AtMost, Less}
use Rattle.glob_nodes.specs.declared.nodes.Join.{Join}
use Rattle.glob_nodes.specs.declared.nodes.Join.TheVariants.{Both, Either, Alike}
use Rattle.glob_nodes.specs.Says.{Says, compares, joins, num}
use Rattle.glob_nodes.specs.StepsKnown.{IsBit, IsJoin, IsTruth, compared_to_itself, is_bit_kind, neutral, told_by}
use Rattle.glob_nodes.proofs.Saying.{true_bit}

-- ---- constants

pub integer_read : (es : List Entry) (id : ℕ) (n : Node) → IsNode es id n → n.kind ≡ kinds.Int → (t : ℕ → Term) → ReadsNodes t es → t id ≡ Some (number n.number)
integer_read es id n e f t h =
    let k = kind_read t es id n kinds.Int e f refl h in
    k.term ∙ ap (λ (m : Node). Some (number m.number)) k.is

pub truth_read : (es : List Entry) (id : ℕ) (n : Node) (p : Bool) → IsNode es id n → n.kind ≡ kinds.Bool → int_eq n.number (pos 1) ≡ p → IsTruth es id p
truth_read es id n p e f g t h =
    let k = kind_read t es id n kinds.Bool e f refl h in
    ap is_true (k.term ∙ ap (λ (m : Node). Some (number m.number)) k.is) ∙ g

-- ---- truth values that are made of others

bit_of : (u : Term) (p : Bool) → u ≡ bit p → u ≡ bit (is_true u)
bit_of u p e = e ∙ ap bit (sym (ap is_true e ∙ true_bit p))

bound_bit : (k : NodeKind) → is_bit_kind k ≡ true → is_free k ≡ false
bound_bit kinds.Eq h = refl
bound_bit kinds.Ne h = refl
bound_bit kinds.Le h = refl
bound_bit kinds.Lt h = refl
bound_bit kinds.And h = refl
bound_bit kinds.Or h = refl
bound_bit kinds.Not h = refl
bound_bit kinds.Iff h = refl
bound_bit kinds.Member h = refl
bound_bit kinds.SetEq h = refl
bound_bit kinds.Subset h = refl
bound_bit k h = absurd (cc)

abbrev meant : (ℕ → Term) → Entry → NodeKind → Node → Term
meant t x k n = kind_term no_values x k (map t (children (record { kind = k; a = n.a; b = n.b; c = n.c; number = n.number })))

bit_meant : (t : ℕ → Term) (x : Entry) (k : NodeKind) (n : Node) → is_bit_kind k ≡ true → meant t x k n ≡ bit (is_true (meant t x k n))
unfolding and_term comparison_term iff_term member_term not_term or_term set_comparison_term
bit_meant t x kinds.Eq n h = bit_of _ _ refl
bit_meant t x kinds.Ne n h = bit_of _ _ refl
bit_meant t x kinds.Le n h = bit_of _ _ refl
bit_meant t x kinds.Lt n h = bit_of _ _ refl
bit_meant t x kinds.And n h = bit_of _ _ refl
bit_meant t x kinds.Or n h = bit_of _ _ refl
bit_meant t x kinds.Not n h = bit_of _ _ refl
bit_meant t x kinds.Iff n h = bit_of _ _ refl
bit_meant t x kinds.Member n h = bit_of _ _ refl
bit_meant t x kinds.SetEq n h = bit_of _ _ refl
bit_meant t x kinds.Subset n h = bit_of _ _ refl
bit_meant t x k n h = absurd (cc)

pub bit_read : (es : List Entry) (id : ℕ) (n : Node) → IsNode es id n → is_bit_kind n.kind ≡ true → IsBit es id
bit_read es id n e h t r =
    let k = kind_read t es id n n.kind e refl (bound_bit n.kind h) r in
    k.term ∙ bit_meant t k.entry n.kind n h ∙ ap (λ u. bit (is_true u)) (sym k.term)

-- ---- comparisons

itself_by : (op : Compare) (n : ℤ) → compares op (Some n) (Some n) ≡ compared_to_itself op
itself_by Equal n = grind (arith, ints)
itself_by Differ n = grind (arith, ints)
itself_by AtMost n = grind (arith, ints)
itself_by Less n = grind (arith, ints)

to_itself : (op : Compare) (o : Option ℤ) → IsSome o → compares op o o ≡ compared_to_itself op
to_itself op None h = absurd (cc)
to_itself op (Some n) h = itself_by op n

pub same_known : (r : Reading) (es : List Entry) (op : Compare) (a : ℕ) → IsSure es a → ReadsNodes r.term es → compares op (num r a) (num r a) ≡ compared_to_itself op
same_known r es op a s h = to_itself op (num r a) (s r.term h)

told_as : (op : Compare) (m n : ℤ) → compares op (Some m) (Some n) ≡ told_by op m n
told_as Equal m n = refl
told_as Differ m n = refl
told_as AtMost m n = refl
told_as Less m n = refl

pub integers_known : (r : Reading) (op : Compare) (a b : ℕ) (m n : ℤ) → r.term a ≡ Some (number m) → r.term b ≡ Some (number n) → compares op (num r a) (num r b) ≡ told_by op m n
integers_known r op a b m n e f =
    ap (λ u. compares op (as_number u) (num r b)) e ∙ ap (λ u. compares op (Some m) (as_number u)) f ∙ told_as op m n

pub told_read : (op : Compare) (m n k l : ℤ) → k ≡ m → l ≡ n → told_by op m n ≡ told_by op k l
told_read op m n k l e f = ap (λ i. told_by op i n) (sym e) ∙ ap (told_by op k) (sym f)

pub known_says : (old new : Run) (f : Reading → Bool) (p : Bool) (id : ℕ) → Says old new (λ _. p) id → ((r : Reading) → Reads r new → f r ≡ p) → Says old new f id
known_says old new f p id s e = record { same = s.same; is = λ r h. s.is r h ∙ ap bit (sym (e r h)); tells = λ r h. s.tells r h ∙ sym (e r h) }

pub node_says : (s : Run) (f : Reading → Bool) (id : ℕ) → ((r : Reading) → Reads r s → r.term id ≡ bit (f r)) → Says s s f id
node_says s f id e = record { same = λ r h. refl; is = e; tells = λ r h. ap is_true (e r h) ∙ true_bit (f r) }

-- ---- joins

keeps : (op : Join) (q x : Bool) → neutral op ≡ Some q → joins op q x ≡ x
keeps Both true x e = refl
keeps Both false x e = absurd (cc)
keeps Either true x e = absurd (cc)
keeps Either false x e = refl
keeps Alike q x e = absurd (cc)

absorbs : (op : Join) (p x : Bool) → neutral op ≡ Some (not p) → joins op p x ≡ p
absorbs Both true x e = absurd (cc)
absorbs Both false x e = refl
absorbs Either true x e = refl
absorbs Either false x e = absurd (cc)
absorbs Alike p x e = absurd (cc)

pub join_kept : (r : Reading) (op : Join) (p q x : Bool) (k : Known) → neutral op ≡ Some q → p ≡ q → IsJoin r x k → IsJoin r (joins op p x) k
join_kept r op p q x k e f j = subst (λ y. IsJoin r y k) (sym (ap (λ z. joins op z x) f ∙ keeps op q x e)) j

pub join_absorbed : (op : Join) (p q x : Bool) → neutral op ≡ Some q → q ≡ not p → joins op p x ≡ p
join_absorbed op p q x e f = absorbs op p x (e ∙ ap Some f)

commutes : (op : Join) (x y : Bool) → joins op x y ≡ joins op y x
commutes Both true true = refl
commutes Both true false = refl
commutes Both false true = refl
commutes Both false false = refl
commutes Either true true = refl
commutes Either true false = refl
commutes Either false true = refl
commutes Either false false = refl
commutes Alike true true = refl
commutes Alike true false = refl
commutes Alike false true = refl
commutes Alike false false = refl

pub join_first : (r : Reading) (op : Join) (x y p : Bool) (k : Known) → x ≡ p → IsJoin r (joins op p y) k → IsJoin r (joins op x y) k
join_first r op x y p k e j = subst (λ z. IsJoin r (joins op z y) k) (sym e) j

pub join_second : (r : Reading) (op : Join) (x y q : Bool) (k : Known) → y ≡ q → IsJoin r (joins op q x) k → IsJoin r (joins op x y) k
join_second r op x y q k e j = subst (λ z. IsJoin r z k) (sym (commutes op x y ∙ ap (λ z. joins op z x) e)) j

-- ---- sums and products

plus_zero : (n : ℤ) → n +ℤ pos 0 ≡ n
plus_zero n = grind (arith, ints)

zero_plus : (n : ℤ) → pos 0 +ℤ n ≡ n
zero_plus n = grind (arith, ints)

times_one : (n : ℤ) → n *ℤ pos 1 ≡ n
times_one n = grind (arith, ints)

one_times : (n : ℤ) → pos 1 *ℤ n ≡ n
one_times n = grind (arith, ints)

add_zero : (x : Term) → IsSome (as_number x) → arith_term arith_row.Add x (Some (number (pos 0))) ≡ x
unfolding arith_term computed
add_zero None h = absurd (cc)
add_zero (Some (number n)) h = ap (λ i. Some (number i)) (plus_zero n)
add_zero (Some v) h = absurd (cc)

zero_add : (x : Term) → IsSome (as_number x) → arith_term arith_row.Add (Some (number (pos 0))) x ≡ x
unfolding arith_term computed
zero_add None h = absurd (cc)
zero_add (Some (number n)) h = ap (λ i. Some (number i)) (zero_plus n)
zero_add (Some v) h = absurd (cc)

mul_one : (x : Term) → IsSome (as_number x) → arith_term arith_row.Mul x (Some (number (pos 1))) ≡ x
unfolding arith_term computed
mul_one None h = absurd (cc)
mul_one (Some (number n)) h = ap (λ i. Some (number i)) (times_one n)
mul_one (Some v) h = absurd (cc)

one_mul : (x : Term) → IsSome (as_number x) → arith_term arith_row.Mul (Some (number (pos 1))) x ≡ x
unfolding arith_term computed
one_mul None h = absurd (cc)
one_mul (Some (number n)) h = ap (λ i. Some (number i)) (one_times n)
one_mul (Some v) h = absurd (cc)

pub sum_first : (x y : Term) → IsSome (as_number x) → y ≡ Some (number (pos 0)) → arith_term arith_row.Add x y ≡ x
sum_first x y h e = ap (arith_term arith_row.Add x) e ∙ add_zero x h

pub sum_second : (x y : Term) → IsSome (as_number y) → x ≡ Some (number (pos 0)) → arith_term arith_row.Add x y ≡ y
sum_second x y h e = ap (λ z. arith_term arith_row.Add z y) e ∙ zero_add y h

pub product_first : (x y : Term) → IsSome (as_number x) → y ≡ Some (number (pos 1)) → arith_term arith_row.Mul x y ≡ x
product_first x y h e = ap (arith_term arith_row.Mul x) e ∙ mul_one x h

pub product_second : (x y : Term) → IsSome (as_number y) → x ≡ Some (number (pos 1)) → arith_term arith_row.Mul x y ≡ y
product_second x y h e = ap (λ z. arith_term arith_row.Mul z y) e ∙ one_mul y h
