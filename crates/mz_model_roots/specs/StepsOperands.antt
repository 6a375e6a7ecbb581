-- Mirror of src/operands.rt; private clauses only.
use Rattle.std.specs.Prelude.{◌≡◌, ℕ, Bool, true, ◌&&◌, List, [], ◌∷◌}
use Rattle.mz_arena.specs.Entries.{Entry}
use Rattle.mz_arena.specs.Values.{Term, is_true}
use Rattle.mz_symbol.specs.Runs.{ReadsNodes}

-- all these nodes are true
abbrev pub all_true : (ℕ → Term) → List ℕ → Bool
all_true t [] = true
all_true t (id ∷ ids) = is_true (t id) && all_true t ids

-- these nodes and one more are all true where the first ones and another are
abbrev pub IsSame : List Entry → List ℕ → ℕ → List ℕ → ℕ → Type 0
IsSame es ids id more other = (t : ℕ → Term) → ReadsNodes t es → (all_true t more && is_true (t other)) ≡ (all_true t ids && is_true (t id))
