-- What flattening up to an id leaves.
use Rattle.std.specs.Prelude.{◌≡◌, ℕ, ◌<◌, List, Some, slice_get, Bool, true, false}
use Rattle.std.specs.List.{AllByRecursion}
use Rattle.mz_arena.specs.Entries.{Entry, children, is_free, is_local}
use Rattle.mz_partial.specs.Totals.{IsTotal}
use Rattle.flat_reif.specs.States.{State, Flattened}
use Rattle.flat_reif.specs.Lists.{HasArg, IsGiven}
use Rattle.flat_reif.specs.Needs.{is_needed}

-- ---- the needed ids

pub record IsNeeded (es : List Entry) (need : List Bool) (id : ℕ) (e : Entry) : Type 0 where
  pub total : IsTotal es id
  -- of a variable or a choice no child is asked: that is its domain
  pub children : is_free e.node.kind ≡ false → AllByRecursion (λ i. is_needed need i ≡ true) (children e.node)

-- each is a total node whose children are needed
abbrev pub AreNeeded : List Entry → List Bool → Type 0
AreNeeded es need = (id : ℕ) (e : Entry) → slice_get es id ≡ Some e → is_needed need id ≡ true → IsNeeded es need id e

-- ---- the steps

-- a total node whose children are given
pub record IsDue (s : State) (id : ℕ) : Type 0 where
  pub total : IsTotal s.es id
  pub given : (e : Entry) → slice_get s.es id ≡ Some e → is_free e.node.kind ≡ false → AllByRecursion (IsGiven s) (children e.node)

-- after a step the id is given where it is needed, and has an argument where it is a choice
pub record IsSettled (old new : State) (id : ℕ) (needed : Bool) : Type 0 where
  pub flattened : Flattened old new
  pub given : needed ≡ true → IsGiven new id
  pub choice : (e : Entry) → slice_get old.es id ≡ Some e → is_local e.node.kind ≡ true → HasArg new id

-- the ids before one: the needed ones are given, and each choice has an argument, needed or not
pub record FlattenedBelow (old new : State) (need : List Bool) (upto : ℕ) : Type 0 where
  pub flattened : Flattened old new
  pub given : (id : ℕ) → id < upto → is_needed need id ≡ true → IsGiven new id
  pub choices : (id : ℕ) (e : Entry) → id < upto → slice_get old.es id ≡ Some e → is_local e.node.kind ≡ true → HasArg new id
