-- What is made costs at most what the arena charges for the node that it is made of.
use Rattle.std.proofs.Common.{◌≡◌, ℕ, zero, suc, ◌+◌, ◌<◌, ◌≤◌, List, [], ◌∷◌, ◌++◌, length, drop, take, Option, Some, None, slice_get, true, inl, inr, refl, sym, ap, subst, ◌∙◌, arith}
use Rattle.mz_arena.specs.declared.node.NodeKind.{NodeKind}
use Rattle.mz_arena.specs.declared.node.NodeKind.TheVariants.{Int, Bool as BoolNode, Var, Local, Add, Mul, Div, Mod, Min, Max, Abs, ToInt, Eq, Ne, Le, Lt, And, Or, Not, Iff, If, Access, Guard, Nil, Cons, SetConst, SetVar, SetLocal, Member, Union, Intersect, Diff, Symdiff, Card, SetEq, Subset}
use Rattle.mz_arena.specs.Entries.{Entry}
use Rattle.mz_arena.specs.Charges.{charge_of, charges}
use Rattle.mz_arena.specs.Arenas.{HasAtMost, Grew}
use Rattle.mz_arena.proofs.Folds.{get-length}
use Rattle.mz_partial.specs.declared.group.Group.{Group}
use Rattle.mz_partial.specs.declared.group.Group.TheVariants as group
use Rattle.mz_partial.specs.Groups.{group_of, is_partial}
use Rattle.mz_partial.specs.Nodes.{IsNode}
use Rattle.mz_partial.specs.Costs.{cost_of, costs}

-- what is made beside a node of a group costs at most this
abbrev pub beside : Group → ℕ
beside group.Leaf = 0
beside group.One = 0
beside group.Two = 2
beside group.Cons = 2
beside group.Test = 4
beside group.Connective = 4
beside group.Reading = 2
beside group.Choice = 8
beside group.Guard = 4
beside group.Division = 16
beside group.Extreme = 0
beside group.Access = 16

pub cost_within : (k : NodeKind) → cost_of k + beside (group_of k) ≤ charge_of k
cost_within Int = omega arith
cost_within BoolNode = omega arith
cost_within Var = omega arith
cost_within Local = omega arith
cost_within Add = omega arith
cost_within Mul = omega arith
cost_within Div = omega arith
cost_within Mod = omega arith
cost_within Min = omega arith
cost_within Max = omega arith
cost_within Abs = omega arith
cost_within ToInt = omega arith
cost_within Eq = omega arith
cost_within Ne = omega arith
cost_within Le = omega arith
cost_within Lt = omega arith
cost_within And = omega arith
cost_within Or = omega arith
cost_within Not = omega arith
cost_within Iff = omega arith
cost_within If = omega arith
cost_within Access = omega arith
cost_within Guard = omega arith
cost_within Nil = omega arith
cost_within Cons = omega arith
cost_within SetConst = omega arith
cost_within SetVar = omega arith
cost_within SetLocal = omega arith
cost_within Member = omega arith
cost_within Union = omega arith
cost_within Intersect = omega arith
cost_within Diff = omega arith
cost_within Symdiff = omega arith
cost_within Card = omega arith
cost_within SetEq = omega arith
cost_within Subset = omega arith

pub cost_less : (k : NodeKind) → cost_of k ≤ charge_of k
cost_less k = omega (arith, cost_within k)

-- a node of a group, and what is made beside it
pub group_cost : (k : NodeKind) (g : Group) → group_of k ≡ g → cost_of k + beside g ≤ charge_of k
group_cost k g h = subst (λ x. cost_of k + beside x ≤ charge_of k) h (cost_within k)

-- of the node at an id
pub node_cost : (es : List Entry) (id : ℕ) (k : NodeKind) (is : List ℕ) (x y : ℕ) → IsNode es id k is → x ≤ y + charge_of k → (e : Entry) → slice_get es id ≡ Some e → x ≤ y + charge_of e.node.kind
node_cost es id k is x y n h e there = subst (λ j. x ≤ y + charge_of j) (sym n.kind ∙ ap (λ (d : Entry). d.node.kind) (some_in (sym n.stands ∙ there))) h
  where
    some_in : {a b : Entry} → Some a ≡ Some b → a ≡ b
    some_in q = cc

-- ---- arenas that go on

costs-append : (es fs : List Entry) → costs (es ++ fs) ≡ costs es + costs fs
unfolding costs
costs-append [] fs = omega arith
costs-append (e ∷ es) fs = omega (arith, costs-append es fs)

charges-append : (es fs : List Entry) → charges (es ++ fs) ≡ charges es + charges fs
unfolding charges
charges-append [] fs = omega arith
charges-append (e ∷ es) fs = omega (arith, charges-append es fs)

costs-one : (e : Entry) → costs (e ∷ []) ≡ cost_of e.node.kind
unfolding costs
costs-one e = omega arith

costs_less : (es : List Entry) → costs es ≤ charges es
unfolding costs charges
costs_less [] = omega arith
costs_less (e ∷ es) = omega (arith, cost_less e.node.kind, costs_less es)

pub at_most_costs : (old new : List Entry) (e : Entry) → HasAtMost old new e → costs new ≤ costs old + cost_of e.node.kind
at_most_costs old new e (inl h) = omega (arith, ap costs h)
at_most_costs old new e (inr h) = omega (arith, ap costs h, costs-append old (e ∷ []), costs-one e)

begins : (xs ys : List Entry) → ((i : ℕ) → i < length xs → slice_get ys i ≡ slice_get xs i) → ys ≡ xs ++ drop (length xs) ys
begins [] ys h = refl
begins (x ∷ xs) [] h = let first = h 0 (omega arith) in absurd (cc)
begins (x ∷ xs) (y ∷ ys) h =
    let first = h 0 (omega arith) in
    let same : y ≡ x = cc in
    let rest : ys ≡ xs ++ drop (length xs) ys = begins xs ys (λ i l. h (suc i) (omega (arith, l))) in
    ap (λ z. z ∷ ys) same ∙ ap (λ zs. x ∷ zs) rest

-- what costs nothing by the arena's charges costs nothing
pub costs_by_charges : (old new : List Entry) → Grew old new → charges new ≡ charges old → costs new ≤ costs old
costs_by_charges old new g h =
    let rest = drop (length old) new in
    let is : new ≡ old ++ rest = begins old new g.same in
    omega (arith, ap costs is, ap charges is, costs-append old rest, charges-append old rest, costs_less rest, h)

-- ---- the first ids

take_same : (n : ℕ) (xs ys : List Entry) → n ≤ length xs → ((i : ℕ) → i < length xs → slice_get ys i ≡ slice_get xs i) → take n ys ≡ take n xs
take_same zero xs ys l h = refl
take_same (suc n) [] ys l h = absurd (omega (arith, l))
take_same (suc n) (x ∷ xs) [] l h = let first = h 0 (omega arith) in absurd (cc)
take_same (suc n) (x ∷ xs) (y ∷ ys) l h =
    let first = h 0 (omega arith) in
    let same : y ≡ x = cc in
    ap (λ z. z ∷ take n ys) same ∙ ap (λ zs. x ∷ zs) (take_same n xs ys (omega (arith, l)) (λ i k. h (suc i) (omega (arith, k))))

charges-take : (es : List Entry) (n : ℕ) (e : Entry) → slice_get es n ≡ Some e → charges (take (suc n) es) ≡ charges (take n es) + charge_of e.node.kind
unfolding charges
charges-take [] n e h = absurd (cc)
charges-take (d ∷ es) zero e h = let same : d ≡ e = cc in ap (λ (x : Entry). charge_of x.node.kind + 0) same ∙ omega arith
charges-take (d ∷ es) (suc n) e h = omega (arith, charges-take es n e h)

record HasEntry (es : List Entry) (id : ℕ) : Type 0 where
  there : Entry
  is : slice_get es id ≡ Some there

entry_at : (es : List Entry) (id : ℕ) → id < length es → HasEntry es id
entry_at es id l = by (slice_get es id) refl
  where
    by : (o : Option Entry) → slice_get es id ≡ o → HasEntry es id
    by None h = let past = get-length es id h in absurd (omega (arith, past, l))
    by (Some e) h = record { there = e; is = h }

-- one id more
pub next_cost : (old new : List Entry) (n : ℕ) → Grew old new → n < length old → ((e : Entry) → slice_get old n ≡ Some e → costs new ≤ costs old + charge_of e.node.kind) → costs new + charges (take n old) ≤ costs old + charges (take (suc n) new)
next_cost old new n g l h =
    let e = entry_at old n l in
    let there : slice_get new n ≡ Some e.there = g.same n l ∙ e.is in
    omega (arith, h e.there e.is, charges-take new n e.there there, ap charges (take_same n old new (omega (arith, l)) g.same))

-- of what goes on, more is charged
take_less : (n : ℕ) (xs ys : List Entry) → charges (take n xs) ≤ charges (take n (xs ++ ys))
unfolding charges
take_less zero xs ys = omega arith
take_less (suc n) [] ys = omega arith
take_less (suc n) (x ∷ xs) ys = omega (arith, take_less n xs ys)

pub take_later : (n : ℕ) (old new : List Entry) → Grew old new → charges (take n old) ≤ charges (take n new)
take_later n old new g = subst (λ es. charges (take n old) ≤ charges (take n es)) (sym (begins old new g.same)) (take_less n old (drop (length old) new))

-- a node of a partial kind
pub partial_charge : (k : NodeKind) → is_partial k ≡ true → 2 ≤ charge_of k
partial_charge Div h = omega arith
partial_charge Mod h = omega arith
partial_charge Min h = omega arith
partial_charge Max h = omega arith
partial_charge Access h = omega arith
partial_charge Guard h = omega arith
partial_charge _ h = absurd (cc)
