-- Domains without a value: no solution is left.
use Rattle.std.specs.Prelude.{◌≡◌, ◌≢◌, ℕ, List, [], ◌∷◌, ◌++◌, false}
use Rattle.std.specs.List.{AllByRecursion}
use Rattle.mz_arena.specs.Instances.{VarCell, ModelVar}
use Rattle.mz_instance.specs.Parts.{Part, is_subset_sort, value_part, parts}
use Rattle.fz_program.specs.Values.{Values}
use Rattle.fz_program.specs.Flat.{FlatSolves}
use Rattle.mz_arena.specs.Entries.{Entry}
use Rattle.mz_arena.specs.Values as terms
use Rattle.mz_arena.specs.InBounds.{AreInDomains}
use Rattle.flat_reif.specs.States.{State, Always}
use Rattle.flat_root.specs.Keeps.{Leads}

-- there is a value: a set has the empty one
abbrev pub HasSome : Part → Type 0
HasSome p = is_subset_sort p.sort ≡ false → p.set ≢ []

abbrev pub HaveSome : List ModelVar → Type 0
HaveSome ms = AllByRecursion HasSome (parts ms)

-- where some of these parts has no value, there is no solution
pub record AreCleared (old new : State) (ps : List Part) : Type 0 where
  pub leads : Leads old new Always
  pub some : (f : Values) → FlatSolves new.prog f → AllByRecursion HasSome ps

-- no value of a part without one lies in the domains
pub record IsBound (es : List Entry) (p : Part) : Type 0 where
  pub none : is_subset_sort p.sort ≡ false → p.set ≡ [] → (v : terms.Values) → AreInDomains es v → ⊥

abbrev pub AreBound : List Entry → List Part → Type 0
AreBound es ps = AllByRecursion (IsBound es) ps

-- the parts of values
abbrev pub value_parts : ModelVar → List VarCell → List Part
value_parts m [] = []
value_parts m (c ∷ cs) = value_part m c ∷ value_parts m cs

abbrev pub all_value_parts : List ModelVar → List Part
all_value_parts [] = []
all_value_parts (m ∷ ms) = value_parts m m.cells ++ all_value_parts ms
