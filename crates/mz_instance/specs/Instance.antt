-- WHAT IS ASKED OF AN INSTANCE, whatever its model is.
use Rattle.std.specs.Prelude.{◌≡◌, ◌≢◌, ◌⊎◌, ◌≤ℤ◌, ℕ, pos, List, [], ◌∷◌, length, Bool, true, false, Option, Some, None, is_some, slice_get, IsSome}
use Rattle.mz_value.specs.Ranges.{Range, IsInLimit, AreCanonical, AreInLimit}
use Rattle.mz_operations.specs.Arrays.{place_count}
use Rattle.mz_arena.specs.declared.instance.InstanceGoal.{InstanceGoal}
use Rattle.mz_arena.specs.declared.instance.InstanceGoal.TheVariants.{Satisfy, Minimize, Maximize}
use Rattle.mz_arena.specs.Arenas.{IsArena}
use Rattle.mz_arena.specs.Entries.{Entry, is_free, is_local}
use Rattle.mz_arena.specs.Extents.{extent, as_truth, as_whole}
use Rattle.mz_arena.specs.FreeNodes.{is_set_kind}
use Rattle.mz_arena.specs.Instances.{VarCell, ModelVar, Instance}
use Rattle.mz_instance.specs.Parts.{Sort, Truth, Part, truths, is_subset_sort, sort_of, base_of, ids, parts, AreNodes}

-- ---- variables

-- a scalar has one cell, and an array one for each place
abbrev pub IsCounted : Option (List Range) → ℕ → Type 0
IsCounted None n = n ≡ 1
IsCounted (Some ix) n = n ≡ place_count ix

-- `1..0`, or a range that isn't empty, of numbers that may be written
pub record IsIndexRange (r : Range) : Type 0 where
  pub ordered : (r ≡ (pos 1, pos 0)) ⊎ (r.0 ≤ℤ r.1)
  pub least : IsInLimit r.0
  pub greatest : IsInLimit r.1

abbrev pub AreIndexRanges : List Range → Type 0
AreIndexRanges [] = Unit {0}
AreIndexRanges (r ∷ rs) = IsIndexRange r × AreIndexRanges rs

abbrev pub IsIndex : Option (List Range) → Type 0
IsIndex None = Unit {0}
IsIndex (Some ix) = (ix ≢ []) × AreIndexRanges ix

-- each cell of an option has an occurrence, and no other has one
abbrev pub AreOccurring : Bool → List VarCell → Type 0
AreOccurring opt [] = Unit {0}
AreOccurring opt (c ∷ cs) = (is_some c.occurs ≡ opt) × AreOccurring opt cs

-- there is no option of a set
pub record IsModelVar (m : ModelVar) : Type 0 where
  pub allowed : m.opt ≡ true → is_subset_sort (sort_of (base_of m.base)) ≡ false
  pub index : IsIndex m.index
  pub count : IsCounted m.index (length m.cells)
  pub cells : AreOccurring m.opt m.cells

abbrev pub AreModelVars : List ModelVar → Type 0
AreModelVars [] = Unit {0}
AreModelVars (m ∷ ms) = IsModelVar m × AreModelVars ms

-- ---- parts

abbrev pub IsTruthOver : Sort → List Range → Type 0
IsTruthOver Truth u = u ≡ truths
IsTruthOver sort u = Unit {0}

-- a truth value is 0 or 1, and each set is canonical and may be written
pub record IsPart (p : Part) : Type 0 where
  pub truth : IsTruthOver p.sort p.set
  pub canonical : AreCanonical p.set
  pub limited : AreInLimit p.set

abbrev pub AreParts : List Part → Type 0
AreParts [] = Unit {0}
AreParts (p ∷ ps) = IsPart p × AreParts ps

-- ---- nodes

-- a choice has some value to take: a set has at least the empty one
pub record CanTake (es : List Entry) (e : Entry) : Type 0 where
  pub over : Entry
  pub domain : slice_get es e.node.a ≡ Some over
  pub some : is_set_kind e.node.kind ≡ false → over.set ≢ []

-- the bounds of these nodes are those of truth values
abbrev pub AreTruths : List Entry → List ℕ → Type 0
AreTruths es [] = Unit {0}
AreTruths es (r ∷ rs) = IsSome (as_truth (extent es r)) × AreTruths es rs

-- what is minimized or maximized is an integer
abbrev pub IsObjective : List Entry → InstanceGoal → Type 0
IsObjective es Satisfy = Unit {0}
IsObjective es (Minimize id) = IsSome (as_whole (extent es id))
IsObjective es (Maximize id) = IsSome (as_whole (extent es id))

pub record IsInstance (inst : Instance) : Type 0 where
  pub arena : IsArena inst.arena
  pub vars : AreModelVars inst.vars
  pub suited : AreParts (parts inst.vars)
  -- each part has a variable of its own, and there is no other
  pub nodes : AreNodes inst.arena false 0 (ids inst.vars) (parts inst.vars)
  pub no_more : (id : ℕ) (e : Entry) → slice_get inst.arena id ≡ Some e → is_free e.node.kind ≡ true → is_local e.node.kind ≡ false → slice_get (ids inst.vars) e.node.b ≡ Some id
  pub chosen : (id : ℕ) (e : Entry) → slice_get inst.arena id ≡ Some e → is_local e.node.kind ≡ true → CanTake inst.arena e
  pub roots : AreTruths inst.arena inst.roots
  pub goal : IsObjective inst.arena inst.goal
