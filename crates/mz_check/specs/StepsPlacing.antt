-- Declarations in source order, found by their slots. Mirror of src/placing.rt; private clauses only.
use Rattle.std.specs.Prelude.{◌≡◌, ℕ, ◌<◌, List, length, slice_index_or}
use Rattle.mz_core.specs.Tree.{Decl}

-- a place among the first ones that has a declaration of this slot
pub record HasSlot (ds : List Decl) (first slot at : ℕ) : Type 0 where
  pub within : at < first
  pub is : (d : Decl) → (slice_index_or ds at d).slot ≡ slot

-- each slot that one of the first declarations has is placed at one of them
pub record HoldPlaces (ds : List Decl) (first : ℕ) (places : List ℕ) : Type 0 where
  pub sized : length places ≡ length ds
  pub held : (slot at : ℕ) → slot < length ds → HasSlot ds first slot at → HasSlot ds first slot (slice_index_or places slot 0)

abbrev pub ArePlaces : List Decl → List ℕ → Type 0
ArePlaces ds places = HoldPlaces ds (length ds) places
