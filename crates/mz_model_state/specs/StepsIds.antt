-- Mirror of src/ids.rt, src/nodes.rt and src/testing.rt; private clauses only.
use Rattle.std.specs.Prelude.{◌≡◌, ◌<◌, ℕ, List, [], ◌∷◌, Option, Some, None, IsSome, slice_get}
use Rattle.std.specs.List.{flat_map}
use Rattle.mz_arena.specs.Entries.{Entry}
use Rattle.mz_arena.specs.Extents.{as_truth, extent}
use Rattle.mz_arena.specs.Instances.{VarCell}
use Rattle.mz_instance.specs.Parts.{cell_ids}
use Rattle.mz_model_state.specs.Tested.{IsNumbered}

abbrev pub if_there : Option ℕ → List ℕ
if_there None = []
if_there (Some o) = o ∷ []

abbrev pub cells_ids : List VarCell → List ℕ
cells_ids cs = flat_map cell_ids cs

-- the nodes below this id are tested
abbrev pub AreNumberedBelow : ℕ → List Entry → List ℕ → List ℕ → Type 0
AreNumberedBelow n es vars choices = (id : ℕ) (e : Entry) → id < n → slice_get es id ≡ Some e → IsNumbered vars choices id e.node

abbrev pub IsTruthAt : List Entry → List ℕ → ℕ → Type 0
IsTruthAt es rs i = (r : ℕ) → slice_get rs i ≡ Some r → IsSome (as_truth (extent es r))

-- the roots before this place are Booleans
abbrev pub AreTruthsBelow : ℕ → List Entry → List ℕ → Type 0
AreTruthsBelow n es rs = (i r : ℕ) → i < n → slice_get rs i ≡ Some r → IsSome (as_truth (extent es r))
