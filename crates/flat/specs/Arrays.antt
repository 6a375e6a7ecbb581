-- Arrays that are added one after the other, and the places of their elements.
use Rattle.std.specs.Prelude.{◌≡◌, ℕ, List, [], ◌∷◌, ◌++◌, map, Bool, true, false, Option, Some, None}
use Rattle.std.specs.List.{AllByRecursion, flat_map}
use Rattle.mz_base.specs.Names.{text_of}
use Rattle.mz_value.specs.Ranges.{Range}
use Rattle.mz_arena.specs.Entries.{at}
use Rattle.mz_arena.specs.Instances.{VarCell, ModelVar}
use Rattle.fz_program.specs.Names.{Name}
use Rattle.fz_program.specs.Arguments.{Plain, var}
use Rattle.fz_program.specs.Flat.{ArrayItem, Program}
use Rattle.fz_build.specs.Build.{MayAdd, with_array}
use Rattle.flat_meaning.specs.Front.{occurrence_name, value_name, array_item}
use Rattle.flat_reif.specs.States.{State, IsState}
use Rattle.flat_reif.specs.Roots.{with_prog}

abbrev pub with_arrays : Program → List ArrayItem → Program
with_arrays p [] = p
with_arrays p (a ∷ more) = with_arrays (with_array p a) more

-- each may be added after those before it
abbrev pub MayAddAll : Program → List ArrayItem → Type 0
MayAddAll p [] = Unit {0}
MayAddAll p (a ∷ more) = MayAdd p a × MayAddAll (with_array p a) more

pub record AreAdded (old new : State) (items : List ArrayItem) : Type 0 where
  pub same : new ≡ with_prog old (with_arrays old.prog items)
  pub state : IsState new

-- ---- the places of nodes' variables

abbrev pub as_place : Option Plain → ℕ
as_place (Some (var k)) = k
as_place _ = 0

-- the place of the variable that is the argument of a node
abbrev pub place_at : List (Option Plain) → ℕ → ℕ
place_at args i = as_place (at args i)

-- a node whose argument is a variable
pub record HasVariable (args : List (Option Plain)) (i : ℕ) : Type 0 where
  pub place : ℕ
  pub is : at args i ≡ Some (var place)

abbrev pub HaveVariables : List (Option Plain) → List ℕ → Type 0
HaveVariables args is = AllByRecursion (HasVariable args) is

-- ---- the arrays of variables, by the nodes of their elements

abbrev pub value_ids : List VarCell → List ℕ
value_ids cs = map (λ (c : VarCell). c.term) cs

abbrev pub as_ids : Option ℕ → List ℕ
as_ids None = []
as_ids (Some o) = o ∷ []

abbrev pub occurrence_ids : List VarCell → List ℕ
occurrence_ids cs = flat_map (λ (c : VarCell). as_ids c.occurs) cs

abbrev pub array_over : List (Option Plain) → Name → List Range → List ℕ → ArrayItem
array_over args x ix is = array_item x ix (map (place_at args) is)

abbrev pub arrays_by : List (Option Plain) → Option (List Range) → Bool → Name → List VarCell → List ArrayItem
arrays_by args None opt x cs = []
arrays_by args (Some ix) false x cs = array_over args x ix (value_ids cs) ∷ []
arrays_by args (Some ix) true x cs = array_over args (occurrence_name x) ix (occurrence_ids cs) ∷ array_over args (value_name x) ix (value_ids cs) ∷ []

abbrev pub arrays_at : List (Option Plain) → Name → ModelVar → List ArrayItem
arrays_at args x m = arrays_by args m.index m.opt x m.cells

abbrev pub all_arrays : List (Option Plain) → List Name → List ModelVar → List ArrayItem
all_arrays args table [] = []
all_arrays args table (m ∷ ms) = arrays_at args (text_of table m.name) m ++ all_arrays args table ms

-- the elements of variables
abbrev pub HaveElements : List (Option Plain) → List VarCell → Type 0
HaveElements args cs = HaveVariables args (value_ids cs) × HaveVariables args (occurrence_ids cs)

abbrev pub HaveAllElements : List (Option Plain) → List ModelVar → Type 0
HaveAllElements args ms = AllByRecursion (λ (m : ModelVar). HaveElements args m.cells) ms

-- ---- what may be added to a state, and was

abbrev pub MayAddArrays : State → List ArrayItem → Type 0
MayAddArrays s items = MayAddAll s.prog items

abbrev pub values_over : State → Name → List Range → List VarCell → ArrayItem
values_over s x ix cs = array_over s.args x ix (value_ids cs)

abbrev pub occurrences_over : State → Name → List Range → List VarCell → ArrayItem
occurrences_over s x ix cs = array_over s.args x ix (occurrence_ids cs)

abbrev pub option_arrays : State → Name → List Range → List VarCell → List ArrayItem
option_arrays s x ix cs = arrays_by s.args (Some ix) true x cs
