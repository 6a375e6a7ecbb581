-- The nodes of an arena, and what is computed of them from the first to the last.
use Rattle.std.specs.Prelude.{ℕ, ◌<◌, List, [], ◌∷◌, ◌++◌, map, take, slice_get, Bool, true, false, Option, None}
use Rattle.std.specs.Option.{option_flatten}
use Rattle.mz_value.specs.Ranges.{Range}
use Rattle.mz_arena.specs.declared.node.Node.{Node}
use Rattle.mz_arena.specs.declared.node.NodeKind.{NodeKind}
use Rattle.mz_arena.specs.declared.node.NodeKind.TheVariants.{Int, Bool as BoolNode, Var, Local, Add, Mul, Div, Mod, Min, Max, Abs, ToInt, Eq, Ne, Le, Lt, And, Or, Not, Iff, If, Access, Guard, Nil, Cons, SetConst, SetVar, SetLocal, Member, Union, Intersect, Diff, Symdiff, Card, SetEq, Subset}

-- a node with its set, which is empty where the node is no SetConst
pub record Entry : Type 0 where
  pub node : Node
  pub set : List Range

-- a node that is no SetConst
abbrev pub entry : Node → Entry
entry n = record { node = n; set = [] }

-- how many of the fields a, b, c are children
abbrev pub arity : NodeKind → ℕ
arity Int = 0
arity BoolNode = 0
arity Var = 1
arity Local = 1
arity Add = 2
arity Mul = 2
arity Div = 2
arity Mod = 2
arity Min = 1
arity Max = 1
arity Abs = 1
arity ToInt = 1
arity Eq = 2
arity Ne = 2
arity Le = 2
arity Lt = 2
arity And = 2
arity Or = 2
arity Not = 1
arity Iff = 2
arity If = 3
arity Access = 2
arity Guard = 2
arity Nil = 0
arity Cons = 2
arity SetConst = 0
arity SetVar = 1
arity SetLocal = 1
arity Member = 2
arity Union = 2
arity Intersect = 2
arity Diff = 2
arity Symdiff = 2
arity Card = 1
arity SetEq = 2
arity Subset = 2

abbrev pub children : Node → List ℕ
children n = take (arity n.kind) (n.a ∷ n.b ∷ n.c ∷ [])

-- all lie below a number
abbrev pub AllBelow : ℕ → List ℕ → Type 0
AllBelow n [] = Unit {0}
AllBelow n (i ∷ is) = (i < n) × AllBelow n is

abbrev pub is_set_const : NodeKind → Bool
is_set_const SetConst = true
is_set_const _ = false

-- a choice
abbrev pub is_local : NodeKind → Bool
is_local Local = true
is_local SetLocal = true
is_local _ = false

-- a variable or a choice: what has a number of its own
abbrev pub is_free : NodeKind → Bool
is_free Var = true
is_free Local = true
is_free SetVar = true
is_free SetLocal = true
is_free _ = false

-- what there is at a place
abbrev pub at : {A : Type 0} → List (Option A) → ℕ → Option A
at xs i = option_flatten (slice_get xs i)

-- what there is of a node, from what there is of its children
abbrev pub Step : Type 0 → Type 0
Step A = Entry → List (Option A) → Option A

-- what there is of these nodes, after that of the nodes before
unfoldable pub folded : {A : Type 0} → Step A → List (Option A) → List Entry → List (Option A)
folded step xs [] = xs
folded step xs (e ∷ es) = folded step (xs ++ step e (map (at xs) (children e.node)) ∷ []) es

-- one, two or three children
abbrev pub of_one : {A : Type 0} → List (Option A) → (Option A → Option A) → Option A
of_one [] f = None
of_one (x ∷ []) f = f x
of_one (x ∷ y ∷ xs) f = None

abbrev pub of_two : {A : Type 0} → List (Option A) → (Option A → Option A → Option A) → Option A
of_two [] f = None
of_two (x ∷ []) f = None
of_two (x ∷ y ∷ []) f = f x y
of_two (x ∷ y ∷ z ∷ xs) f = None

abbrev pub of_three : {A : Type 0} → List (Option A) → (Option A → Option A → Option A → Option A) → Option A
of_three [] f = None
of_three (x ∷ []) f = None
of_three (x ∷ y ∷ []) f = None
of_three (x ∷ y ∷ z ∷ []) f = f x y z
of_three (x ∷ y ∷ z ∷ u ∷ xs) f = None
