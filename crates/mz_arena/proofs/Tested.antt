-- What is asked of a node, tested.
use Rattle.std.proofs.Common.{◌≡◌, ℕ, zero, suc, ◌<◌, List, [], ◌∷◌, length, map, take, nat_eq, Bool, true, false, cond, ◌&&◌, Option, Some, None, IsSome, option_map, slice_get, get_or, inl, inr, ◌≤◌, pos, refl, sym, ap, subst, ◌∙◌, arith}
use Rattle.std.specs.Option.{option_and_then}
use Rattle.std.proofs.lemmas.Bool.{cases_lt, eqb-true, eq-eqb, and_parts}
use Rattle.std.proofs.lemmas.Int.{ints}
use Rattle.mz_arena.specs.declared.node.Node.{Node}
use Rattle.mz_arena.specs.declared.node.NodeKind.{NodeKind}
use Rattle.mz_arena.specs.declared.node.NodeKind.TheVariants.{Int, Bool as BoolNode, Var, Local, Add, Mul, Div, Mod, Min, Max, Abs, ToInt, Eq, Ne, Le, Lt, And, Or, Not, Iff, If, Access, Guard, Nil, Cons, SetConst, SetVar, SetLocal, Member, Union, Intersect, Diff, Symdiff, Card, SetEq, Subset}
use Rattle.mz_interval.specs.Ends.{Ends}
use Rattle.mz_operations.specs.declared.row.Arith.{Arith as ArithRow}
use Rattle.mz_operations.specs.declared.row.Arith.TheVariants as arith_row
use Rattle.mz_operations.specs.declared.row.SetOp.{SetOp as SetRow}
use Rattle.mz_operations.specs.declared.row.SetOp.TheVariants as set_row
use Rattle.mz_operations.specs.declared.row.Side.TheVariants.{Least, Greatest}
use Rattle.mz_arena.specs.Entries.{Entry, entry, arity, children, AllBelow, is_set_const, is_local, is_free}
use Rattle.mz_arena.specs.Extents.{Known, Extent, whole, truth, subset, wholes, truths, subsets, empty, as_single, as_whole, as_truth, as_subset, variable_extent, set_variable_extent, arith_extent, abs_extent, extreme_extent, to_int_extent, comparison_extent, connective_extent, not_extent, member_extent, set_comparison_extent, if_extent, guard_extent, access_extent, before_extent, branch_extent, cons_extent, set_extent, card_extent, kind_extent, node_extent, extents, extent}
use Rattle.mz_arena.specs.Numbering.{local_ids}
use Rattle.mz_arena.specs.Arenas.{IsSetConst, IsFreeNode, IsAsked}
use Rattle.mz_arena.specs.StepsAsked.{is_const, is_own, is_next, is_free_node, may_stand}
use Rattle.mz_arena.specs.declared.table.Stored.{Stored}
use Rattle.mz_arena.specs.Tables.{Sets, seen, entries}
use Rattle.mz_arena.proofs.Folds.{at-past, get-past}
use Rattle.mz_arena.proofs.Lists.{there}
use Rattle.mz_arena.proofs.Telling.{get-entries}

-- ---- a node has bounds only where its children have

abbrev AreKnown : List Known → Type 0
AreKnown [] = Unit {0}
AreKnown (x ∷ xs) = IsSome x × AreKnown xs

none_some : {A : Type 0} (o : Option A) → o ≡ None → IsSome o → ⊥
none_some None e h = cc
none_some (Some x) e h = cc

abbrev absent : (A : Type 0) → Option A
absent A = None

then_none : {A : Type 0} (B : Type 0) (o : Option A) → option_and_then (λ x. absent B) o ≡ absent B
then_none B None = refl
then_none B (Some x) = refl

record IsStrict (f : Known → Known → Known) : Type 0 where
  left : (y : Known) → f None y ≡ None
  right : (x : Known) → f x None ≡ None

one : (f : Known → Known) (x : Known) → f None ≡ None → IsSome (f x) → AreKnown (x ∷ [])
one f None e h = absurd (none_some (f None) e h)
one f (Some x) e h = (refl, tt)

two : (f : Known → Known → Known) (x y : Known) → IsStrict f → IsSome (f x y) → AreKnown (x ∷ y ∷ [])
two f None y s h = absurd (none_some (f None y) (s.left y) h)
two f (Some x) None s h = absurd (none_some (f (Some x) None) (s.right (Some x)) h)
two f (Some x) (Some y) s h = (refl, (refl, tt))

arith_strict : (op : ArithRow) → IsStrict (arith_extent op)
arith_strict op = record { left = λ y. refl; right = λ x. ap (option_map whole) (then_none Ends (as_whole x)) }

comparison_strict : IsStrict comparison_extent
unfolding comparison_extent
comparison_strict = record { left = λ y. refl; right = λ x. then_none Extent (as_whole x) }

connective_strict : IsStrict connective_extent
unfolding connective_extent
connective_strict = record { left = λ y. refl; right = λ x. then_none Extent (as_truth x) }

member_strict : IsStrict member_extent
unfolding member_extent
member_strict = record { left = λ y. refl; right = λ x. then_none Extent (as_whole x) }

set_comparison_strict : IsStrict set_comparison_extent
unfolding set_comparison_extent
set_comparison_strict = record { left = λ y. refl; right = λ x. then_none Extent (as_subset x) }

set_strict : (op : SetRow) → IsStrict (set_extent op)
unfolding set_extent
set_strict op = record { left = λ y. refl; right = λ x. then_none Extent (as_subset x) }

access_strict : IsStrict access_extent
unfolding access_extent
access_strict = record { left = λ y. refl; right = λ x. then_none Extent (as_whole x) }

guard_strict : IsStrict guard_extent
unfolding guard_extent
guard_strict = record { left = λ y. refl; right = λ x. then_none Extent (as_truth x) }

before_none : (b : Extent) → before_extent b None ≡ None
before_none (whole e) = refl
before_none (truth e) = refl
before_none (subset u) = refl
before_none (wholes es) = refl
before_none truths = refl
before_none (subsets us) = refl
before_none empty = refl

cons_strict : IsStrict cons_extent
unfolding cons_extent
cons_strict = record { left = λ y. refl; right = λ x. by (as_single x) }
  where
    by : (o : Known) → option_and_then (λ (b : Extent). before_extent b None) o ≡ None
    by None = refl
    by (Some b) = before_none b

branch_none : (b : Extent) → branch_extent b None ≡ None
branch_none (whole e) = refl
branch_none (truth e) = refl
branch_none (subset u) = refl
branch_none (wholes es) = refl
branch_none truths = refl
branch_none (subsets us) = refl
branch_none empty = refl

if_known : (x y z : Known) → IsSome (if_extent x y z) → AreKnown (x ∷ y ∷ z ∷ [])
unfolding if_extent
if_known None y z h = cc
if_known (Some x) None z h = absurd (none_some _ (then_none Extent (as_truth (Some x))) h)
if_known (Some x) (Some y) None h = absurd (none_some _ (by (as_truth (Some x)) (as_single (Some y))) h)
  where
    by : (o : Option Ends) (p : Known) → option_and_then (λ (c : Ends). option_and_then (λ (b : Extent). branch_extent b None) p) o ≡ None
    by None p = refl
    by (Some c) None = refl
    by (Some c) (Some b) = branch_none b
if_known (Some x) (Some y) (Some z) h = (refl, (refl, (refl, tt)))

parts_known : (e : Entry) (k : NodeKind) (x y z : Known) → IsSome (kind_extent e k (take (arity k) (x ∷ y ∷ z ∷ []))) → AreKnown (take (arity k) (x ∷ y ∷ z ∷ []))
unfolding variable_extent set_variable_extent to_int_extent not_extent
parts_known e Int x y z h = tt
parts_known e BoolNode x y z h = tt
parts_known e Var x y z h = one (variable_extent e.node.c) x refl h
parts_known e Local x y z h = one (variable_extent e.node.c) x refl h
parts_known e Add x y z h = two (arith_extent arith_row.Add) x y (arith_strict arith_row.Add) h
parts_known e Mul x y z h = two (arith_extent arith_row.Mul) x y (arith_strict arith_row.Mul) h
parts_known e Div x y z h = two (arith_extent arith_row.Div) x y (arith_strict arith_row.Div) h
parts_known e Mod x y z h = two (arith_extent arith_row.Mod) x y (arith_strict arith_row.Mod) h
parts_known e Min x y z h = one (extreme_extent Least) x refl h
parts_known e Max x y z h = one (extreme_extent Greatest) x refl h
parts_known e Abs x y z h = one abs_extent x refl h
parts_known e ToInt x y z h = one to_int_extent x refl h
parts_known e Eq x y z h = two comparison_extent x y comparison_strict h
parts_known e Ne x y z h = two comparison_extent x y comparison_strict h
parts_known e Le x y z h = two comparison_extent x y comparison_strict h
parts_known e Lt x y z h = two comparison_extent x y comparison_strict h
parts_known e And x y z h = two connective_extent x y connective_strict h
parts_known e Or x y z h = two connective_extent x y connective_strict h
parts_known e Not x y z h = one not_extent x refl h
parts_known e Iff x y z h = two connective_extent x y connective_strict h
parts_known e If x y z h = if_known x y z h
parts_known e Access x y z h = two access_extent x y access_strict h
parts_known e Guard x y z h = two guard_extent x y guard_strict h
parts_known e Nil x y z h = tt
parts_known e Cons x y z h = two cons_extent x y cons_strict h
parts_known e SetConst x y z h = tt
parts_known e SetVar x y z h = one set_variable_extent x refl h
parts_known e SetLocal x y z h = one set_variable_extent x refl h
parts_known e Member x y z h = two member_extent x y member_strict h
parts_known e Union x y z h = two (set_extent set_row.Union) x y (set_strict set_row.Union) h
parts_known e Intersect x y z h = two (set_extent set_row.Intersect) x y (set_strict set_row.Intersect) h
parts_known e Diff x y z h = two (set_extent set_row.Diff) x y (set_strict set_row.Diff) h
parts_known e Symdiff x y z h = two (set_extent set_row.Symdiff) x y (set_strict set_row.Symdiff) h
parts_known e Card x y z h = one card_extent x refl h
parts_known e SetEq x y z h = two set_comparison_extent x y set_comparison_strict h
parts_known e Subset x y z h = two set_comparison_extent x y set_comparison_strict h

map-take : {A B : Type 0} (f : A → B) (n : ℕ) (xs : List A) → map f (take n xs) ≡ take n (map f xs)
map-take f zero xs = refl
map-take f (suc n) [] = refl
map-take f (suc n) (x ∷ xs) = ap (λ ys. f x ∷ ys) (map-take f n xs)

known_below : (es : List Entry) (id : ℕ) → IsSome (extent es id) → id < length es
unfolding extents
known_below es id h = elim (cases_lt id (length es)) [
  | inl l ↦ l
  | inr g ↦ absurd (none_some (extent es id) (at-past node_extent es id g) h)
]

all_below : (es : List Entry) (is : List ℕ) → AreKnown (map (extent es) is) → AllBelow (length es) is
all_below es [] h = tt
all_below es (i ∷ is) h = (known_below es i h.0, all_below es is h.1)

-- a node with bounds has its children in the arena
pub bounded_below : (es : List Entry) (e : Entry) → IsSome (node_extent e (map (extent es) (children e.node))) → AllBelow (length es) (children e.node)
bounded_below es e h =
    let parts = map-take (extent es) (arity e.node.kind) (e.node.a ∷ e.node.b ∷ e.node.c ∷ []) in
    let known = parts_known e e.node.kind (extent es e.node.a) (extent es e.node.b) (extent es e.node.c) (subst (λ (xs : List Known). IsSome (node_extent e xs)) parts h) in
    all_below es (children e.node) (subst (λ (xs : List Known). AreKnown xs) (sym parts) known)

-- ---- what the table has at an id

pub const_seen : (sets : Sets) (stored : List Stored) (id : ℕ) (s : Stored) → id < length stored → s ≡ get_or stored id s → is_const (slice_get (entries sets stored) id) ≡ is_set_const s.node.kind
const_seen sets stored id s l h = ap is_const (get-entries sets stored id ∙ ap (option_map (seen sets)) (there stored id s l h))

pub none_seen : (sets : Sets) (stored : List Stored) (id : ℕ) → length stored ≤ id → is_const (slice_get (entries sets stored) id) ≡ false
none_seen sets stored id h = ap is_const (get-entries sets stored id ∙ ap (option_map (seen sets)) (get-past stored id h))

-- ---- the test

true_both : (a b : Bool) → a ≡ true → b ≡ true → a && b ≡ true
true_both true b h k = k
true_both false b h k = cc

own_is : (id : ℕ) (n : Node) → is_own id n ≡ true → n.number ≡ pos id
own_is id n h = grind (arith, ints)

is_own_is : (id : ℕ) (n : Node) → n.number ≡ pos id → is_own id n ≡ true
is_own_is id n h = grind (arith, ints)

const_is : (es : List Entry) (id : ℕ) (o : Option Entry) → slice_get es id ≡ o → is_const o ≡ true → IsSetConst es id
const_is es id None e h = cc
const_is es id (Some c) e h = record { there = c; stands = e; is = h }

is_const_is : (es : List Entry) (id : ℕ) → IsSetConst es id → is_const (slice_get es id) ≡ true
is_const_is es id c = ap is_const c.stands ∙ c.is

next_is : (count : ℕ) (n : Node) → is_next count n ≡ true → is_local n.kind ≡ true → n.b ≡ count
next_is count n h l = eqb-true n.b count (sym (ap (λ t. cond t (nat_eq n.b count) true) l) ∙ h)

is_next_is : (count : ℕ) (n : Node) → (is_local n.kind ≡ true → n.b ≡ count) → is_next count n ≡ true
is_next_is count n h = by (is_local n.kind) refl
  where
    by : (t : Bool) → is_local n.kind ≡ t → cond t (nat_eq n.b count) true ≡ true
    by true e = eq-eqb n.b count (h e)
    by false e = refl

free_node : (es : List Entry) (n : Node) → is_free_node es n ≡ true → IsFreeNode es (length es) n
free_node es n h =
    let own = and_parts (is_own (length es) n) (is_const (slice_get es n.a) && is_next (length (local_ids es)) n) h in
    let rest = and_parts (is_const (slice_get es n.a)) (is_next (length (local_ids es)) n) own.1 in
    record { own = own_is (length es) n own.0; domain = const_is es n.a (slice_get es n.a) refl rest.0; next = next_is (length (local_ids es)) n rest.1 }

is_free_node_is : (es : List Entry) (n : Node) → IsFreeNode es (length es) n → is_free_node es n ≡ true
is_free_node_is es n f =
    true_both (is_own (length es) n) (is_const (slice_get es n.a) && is_next (length (local_ids es)) n) (is_own_is (length es) n f.own)
    (true_both (is_const (slice_get es n.a)) (is_next (length (local_ids es)) n) (is_const_is es n.a f.domain) (is_next_is (length (local_ids es)) n f.next))

record Stands (es : List Entry) (n : Node) : Type 0 where
  other : is_set_const n.kind ≡ false
  free : is_free n.kind ≡ true → IsFreeNode es (length es) n

stands : (es : List Entry) (n : Node) → may_stand es n ≡ true → Stands es n
stands es n h = by (is_set_const n.kind) (is_free n.kind) refl refl h
  where
    by : (s f : Bool) → is_set_const n.kind ≡ s → is_free n.kind ≡ f → cond s false (cond f (is_free_node es n) true) ≡ true → Stands es n
    by true f p q k = cc
    by false true p q k = record { other = p; free = λ g. free_node es n k }
    by false false p q k = record { other = p; free = λ g. absurd (cc) }

may_stand_is : (es : List Entry) (n : Node) → Stands es n → may_stand es n ≡ true
may_stand_is es n s = by (is_set_const n.kind) (is_free n.kind) refl refl
  where
    by : (c f : Bool) → is_set_const n.kind ≡ c → is_free n.kind ≡ f → cond c false (cond f (is_free_node es n) true) ≡ true
    by true f p q = let other = s.other in cc
    by false true p q = is_free_node_is es n (s.free q)
    by false false p q = refl

pub is_asked : (es : List Entry) (n : Node) → may_stand es n ≡ true → IsSome (node_extent (entry n) (map (extent es) (children n))) → IsAsked es n
is_asked es n h some = let s = stands es n h in record { below = bounded_below es (entry n) some; bounded = some; other = s.other; free = s.free }

pub not_standing : (es : List Entry) (n : Node) → may_stand es n ≡ false → IsAsked es n → ⊥
not_standing es n h a = let s = may_stand_is es n (record { other = a.other; free = a.free }) in cc

pub not_bounded : (es : List Entry) (n : Node) → node_extent (entry n) (map (extent es) (children n)) ≡ None → IsAsked es n → ⊥
not_bounded es n h a = none_some _ h a.bounded
