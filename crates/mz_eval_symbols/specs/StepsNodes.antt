-- Mirror of src/nodes.rt; private clauses only.
use Rattle.std.specs.Prelude.{◌≡◌, ◌⊎◌, ℕ, Bool, List, None}
use Rattle.std.specs.Ordering.{int_eq}
use Rattle.mz_arena.specs.declared.node.NodeKind.{NodeKind}
use Rattle.mz_arena.specs.declared.node.NodeKind.TheVariants as kinds
use Rattle.mz_arena.specs.Entries.{Entry}
use Rattle.mz_arena.specs.Values.{Term, access_term, and_term, bit, comparison_term, cons_term, guard_term, if_term, not_term, or_term}
use Rattle.mz_symbol.specs.Runs.{ReadsNodes}
use Rattle.mz_eval_symbols.specs.declared.nodes.Branching.{Branching}
use Rattle.mz_eval_symbols.specs.declared.nodes.Pair.{Pair}
use Rattle.mz_eval_symbols.specs.declared.nodes.Pair.TheVariants as pair

abbrev pub kind_of : Pair → NodeKind
kind_of pair.Access = kinds.Access
kind_of pair.And = kinds.And
kind_of pair.Cons = kinds.Cons
kind_of pair.Equal = kinds.Eq
kind_of pair.Guard = kinds.Guard
kind_of pair.Or = kinds.Or

-- what a node of this kind means over its parts
abbrev pub two_term : Pair → Term → Term → Term
two_term pair.Access x y = access_term x y
two_term pair.And x y = and_term x y
two_term pair.Cons x y = cons_term x y
two_term pair.Equal x y = comparison_term int_eq x y
two_term pair.Guard x y = guard_term x y
two_term pair.Or x y = or_term x y

-- a node of this kind with these parts
abbrev pub IsPair : List Entry → Pair → ℕ → ℕ × ℕ → Type 0
IsPair es w id p = (t : ℕ → Term) → ReadsNodes t es → t id ≡ two_term w (t p.0) (t p.1)

abbrev pub IsIf : List Entry → ℕ → Branching → Type 0
IsIf es id b = (t : ℕ → Term) → ReadsNodes t es → t id ≡ if_term (t b.condition) (t b.first) (t b.second)

abbrev pub IsNot : List Entry → ℕ → ℕ → Type 0
IsNot es id x = (t : ℕ → Term) → ReadsNodes t es → t id ≡ not_term (t x)

-- 0 or 1, or undefined
abbrev pub Counts : Term → Type 0
Counts x = (x ≡ None) ⊎ ((p : Bool) × (x ≡ bit p))

abbrev pub IsCount : List Entry → ℕ → Type 0
IsCount es id = (t : ℕ → Term) → ReadsNodes t es → Counts (t id)
