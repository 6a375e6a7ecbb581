-- Mirror of src/sure.rt; private clauses only.
use Rattle.std.specs.Prelude.{◌≡◌, ℕ, Bool, true, false, List, Some, IsSome, slice_get}
use Rattle.std.specs.Option.{option_map}
use Rattle.mz_arena.specs.declared.node.Node.{Node}
use Rattle.mz_arena.specs.declared.node.NodeKind.{NodeKind}
use Rattle.mz_arena.specs.declared.node.NodeKind.TheVariants as kinds
use Rattle.mz_arena.specs.Entries.{Entry}
use Rattle.mz_arena.specs.Values.{Term, as_number, as_set}
use Rattle.mz_symbol.specs.Runs.{ReadsNodes}

-- the node with this id
abbrev pub IsNode : List Entry → ℕ → Node → Type 0
IsNode es id n = option_map (λ e. e.node) (slice_get es id) ≡ Some n

-- a number wherever it is read
abbrev pub IsSure : List Entry → ℕ → Type 0
IsSure es id = (t : ℕ → Term) → ReadsNodes t es → IsSome (as_number (t id))

-- a set wherever it is read
abbrev pub IsSureSet : List Entry → ℕ → Type 0
IsSureSet es id = (t : ℕ → Term) → ReadsNodes t es → IsSome (as_set (t id))

-- a number where two nodes are
abbrev pub Suffice : List Entry → ℕ → ℕ × ℕ → Type 0
Suffice es id p = (t : ℕ → Term) → ReadsNodes t es → IsSome (as_number (t p.0)) → IsSome (as_number (t p.1)) → IsSome (as_number (t id))

abbrev pub is_sure_set : NodeKind → Bool
is_sure_set kinds.SetConst = true
is_sure_set kinds.SetVar = true
is_sure_set kinds.SetLocal = true
is_sure_set k = false

abbrev pub is_sure_kind : NodeKind → Bool
is_sure_kind kinds.Int = true
is_sure_kind kinds.Bool = true
is_sure_kind kinds.Var = true
is_sure_kind kinds.Local = true
is_sure_kind kinds.ToInt = true
is_sure_kind kinds.Eq = true
is_sure_kind kinds.Ne = true
is_sure_kind kinds.Le = true
is_sure_kind kinds.Lt = true
is_sure_kind kinds.And = true
is_sure_kind kinds.Or = true
is_sure_kind kinds.Not = true
is_sure_kind kinds.Iff = true
is_sure_kind kinds.Member = true
is_sure_kind kinds.SetEq = true
is_sure_kind kinds.Subset = true
is_sure_kind k = false
