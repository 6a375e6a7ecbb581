-- Roots as rows.
use Rattle.std.specs.Prelude.{ℕ, List, [], ◌∷◌, Bool, true, false, Option, Some, None, slice_get}
use Rattle.std.specs.List.{AllByRecursion, flat_map}
use Rattle.mz_arena.specs.declared.node.Node.{Node}
use Rattle.mz_arena.specs.declared.node.NodeKind.{NodeKind}
use Rattle.mz_arena.specs.declared.node.NodeKind.TheVariants as kinds
use Rattle.mz_arena.specs.Entries.{Entry}
use Rattle.fz_program.specs.declared.row_name.RowName.{RowName}
use Rattle.flat_reif_rows.specs.RootRows.{test_of}
use Rattle.flat_reif.specs.States.{State}
use Rattle.flat_reif.specs.Lists.{HasArg}
use Rattle.flat_root.specs.Totals.{IsRoot}

abbrev pub is_constant : NodeKind → Bool
is_constant kinds.Bool = true
is_constant _ = false

-- of a constant none, of a node that a row tests its children, of another the node itself
abbrev pub seeds_by : Bool → Option RowName → ℕ → ℕ → ℕ → List ℕ
seeds_by true row a b id = []
seeds_by false (Some name) a b id = a ∷ b ∷ []
seeds_by false None a b id = id ∷ []

-- the ids whose arguments the row of a root takes
abbrev pub seeds : Node → ℕ → List ℕ
seeds n id = seeds_by (is_constant n.kind) (test_of n.kind) n.a n.b id

abbrev pub seeds_of : Option Entry → ℕ → List ℕ
seeds_of None id = []
seeds_of (Some e) id = seeds e.node id

abbrev pub seeds_at : List Entry → ℕ → List ℕ
seeds_at es id = seeds_of (slice_get es id) id

abbrev pub all_seeds : List Entry → List ℕ → List ℕ
all_seeds es ids = flat_map (seeds_at es) ids

-- a Boolean node of which the row can be posted
pub record IsPostable (s : State) (id : ℕ) : Type 0 where
  pub root : IsRoot s.es id
  pub have : AllByRecursion (HasArg s) (seeds_at s.es id)

abbrev pub ArePostable : State → List ℕ → Type 0
ArePostable s ids = AllByRecursion (IsPostable s) ids
