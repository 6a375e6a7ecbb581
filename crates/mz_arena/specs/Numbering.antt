-- The choices of an arena in their order, and values by the numbers of variables and choices.
use Rattle.std.specs.Prelude.{◌≡◌, ℕ, ◌+◌, ℤ, pos, List, [], ◌∷◌, slice_get, true, Option, Some, None, if◌then◌else◌}
use Rattle.mz_value.specs.Ranges.{Range}
use Rattle.mz_arena.specs.Entries.{Entry, is_local}
use Rattle.mz_arena.specs.Values.{Values}

unfoldable pub local_ids_from : ℕ → List Entry → List ℕ
local_ids_from k [] = []
local_ids_from k (e ∷ es) = if is_local e.node.kind then k ∷ local_ids_from (k + 1) es else local_ids_from (k + 1) es

-- the ids of the choices, in order
unfoldable pub local_ids : List Entry → List ℕ
local_ids es = local_ids_from 0 es

-- the node with this id is the choice with this number
pub record IsChoice (es : List Entry) (k id : ℕ) : Type 0 where
  pub there : Entry
  pub stands : slice_get es id ≡ Some there
  pub local : is_local there.node.kind ≡ true
  pub number : there.node.b ≡ k

-- the k-th choice is the one with the number k
pub record Numbered (es : List Entry) : Type 0 where
  pub there : (k id : ℕ) → slice_get (local_ids es) k ≡ Some id → IsChoice es k id
  pub all : (id : ℕ) (e : Entry) → slice_get es id ≡ Some e → is_local e.node.kind ≡ true → slice_get (local_ids es) e.node.b ≡ Some id

-- of a variable's cell `cells` tells the value, and of a choice `choices`, each by its number
abbrev pub number_of : Values → Values → Option Entry → ℤ
number_of cells choices None = pos 0
number_of cells choices (Some e) = if is_local e.node.kind then choices.number e.node.b else cells.number e.node.b

abbrev pub set_of : Values → Values → Option Entry → List Range
set_of cells choices None = []
set_of cells choices (Some e) = if is_local e.node.kind then choices.set e.node.b else cells.set e.node.b

-- the values by ids
unfoldable pub by_id : List Entry → Values → Values → Values
by_id es cells choices = record { number = λ id. number_of cells choices (slice_get es id); set = λ id. set_of cells choices (slice_get es id) }
