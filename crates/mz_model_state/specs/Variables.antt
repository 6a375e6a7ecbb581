-- VARIABLES: their cells, the variables of an instance that are made of names, how their nodes are kept, and the test of the choice nodes at the end.
use Rattle.std.specs.Prelude.{◌≡◌, ℕ, ◌+◌, Bool, true, false, List, [], ◌∷◌, ◌++◌, length, map, Option, Some, None, is_some, IsSome, slice_get}
use Rattle.mz_value.specs.Ranges.{Range}
use Rattle.mz_core.specs.Tree.{Decl}
use Rattle.mz_arena.specs.Arenas.{Grew}
use Rattle.mz_arena.specs.Entries.{Entry, is_local}
use Rattle.mz_arena.specs.Instances.{VarCell, ModelVar}
use Rattle.mz_arena.specs.Numbering.{local_ids}
use Rattle.mz_meaning.specs.Cells.{Var, held}
use Rattle.mz_meaning.specs.Domains.{domains_bounds}
use Rattle.mz_meaning.specs.Walk.{Assignment, variable}
use Rattle.mz_instance.specs.Parts.{base_of, ids, parts, AreNodes}
use Rattle.mz_model_meaning.specs.Modeled.{names_of}
use Rattle.mz_symbol.specs.declared.types.Free.{Free}
use Rattle.mz_symbol.specs.Choices.{all_parts}
use Rattle.mz_symbol.specs.Symbols.{symbol_value, domain_of, free_ids}
use Rattle.mz_symbol.specs.Runs.{Run, IsRun}
use Rattle.mz_symbol.specs.Readings.{Reading, IsGiven, Reads}
use Rattle.mz_model_state.specs.Hands.{View, NameKind, ParName, OnePlace, ManyPlaces, kind_places, kind_domains, HeldName, cell_at, name_at, named_as, all_places, array_value, places_value, IsAssigned, AreVars, SlotsFrom}

-- ---- THE CELL OF A VARIABLE, as the code has it, is that of its declaration, under each assignment that goes with the reading. Nothing else in hand asks for an assignment

-- the elements of an array of variables
pub record IsPlacesLine (s : Run) (line : ℕ) (fs : List Free) : Type 0 where
  pub value : (r : Reading) → Reads r s → r.line line ≡ places_value r.term fs

pub record IsArrayCell (s : Run) (v : View) (ix : List Range) (fs : List Free) : Type 0 where
  pub line : ℕ
  pub places : IsPlacesLine s line fs
  pub cell : (r : Reading) → v r ≡ Var (domains_bounds (kind_domains (ManyPlaces ix fs))) (held r.mode (array_value ix (r.line line)))

-- the symbol of a place, where this has a value
abbrev pub IsPlaceCell : Run → View → Free → Type 0
IsPlaceCell s v f = (r : Reading) → Reads r s → (IsGiven r.mode → IsSome (symbol_value r.term f.symbol)) → v r ≡ Var (domains_bounds (kind_domains (OnePlace f))) (held r.mode (symbol_value r.term f.symbol))

abbrev pub HasCell : Run → HeldName → NameKind → Type 0
HasCell s n ParName = ⊥
HasCell s n (OnePlace f) = IsPlaceCell s n.cell f
HasCell s n (ManyPlaces ix fs) = IsArrayCell s n.cell ix fs

abbrev pub VariablesSeen : Type 0
VariablesSeen = (s : Run) (n : HeldName) (r : Reading) (a : Assignment) → HasCell s n n.kind → Reads r s → (IsGiven r.mode → IsAssigned r.term a n.slot n.kind) → variable r.mode a n.slot (kind_domains n.kind) (cell_at r n.value) ≡ name_at r n

-- ---- THE VARIABLES OF AN INSTANCE are those of the names that aren't par, in order

abbrev pub place_cell : Free → VarCell
place_cell f = record { occurs = f.symbol.occurs; term = f.symbol.term; domain = f.set }

-- places of the variable's base, which are options where the variable is one
abbrev pub ArePlacesOf : ModelVar → List Free → Type 0
ArePlacesOf m [] = Unit {0}
ArePlacesOf m (f ∷ fs) = ((f.symbol.base ≡ base_of m.base) × (is_some f.symbol.occurs ≡ m.opt)) × ArePlacesOf m fs

abbrev pub kind_index : NameKind → Option (List Range)
kind_index ParName = None
kind_index (OnePlace f) = None
kind_index (ManyPlaces ix fs) = Some ix

pub record IsMadeOf (k : NameKind) (m : ModelVar) : Type 0 where
  pub index : m.index ≡ kind_index k
  pub cells : m.cells ≡ map place_cell (kind_places k)
  pub places : ArePlacesOf m (kind_places k)

abbrev pub is_var_kind : NameKind → Bool
is_var_kind ParName = false
is_var_kind (OnePlace f) = true
is_var_kind (ManyPlaces ix fs) = true

-- the next variable is made of the next name, where that isn't par, and the others are what is asked of the rest
abbrev pub AreMadeOfNext : Bool → NameKind → (List ModelVar → Type 0) → List ModelVar → Type 0
AreMadeOfNext false k Rest ms = Rest ms
AreMadeOfNext true k Rest [] = ⊥
AreMadeOfNext true k Rest (m ∷ ms) = IsMadeOf k m × Rest ms

abbrev pub AreMadeOf : List HeldName → List ModelVar → Type 0
AreMadeOf [] [] = Unit {0}
AreMadeOf [] (m ∷ ms) = ⊥
AreMadeOf (n ∷ ns) ms = AreMadeOfNext (is_var_kind n.kind) n.kind (AreMadeOf ns) ms

-- their parts are those of the names' places
pub record HasParts (ms : List ModelVar) (fs : List Free) : Type 0 where
  pub ids : ids ms ≡ free_ids fs
  pub parts : parts ms ≡ all_parts (map domain_of fs)

abbrev pub PartsMade : Type 0
PartsMade = (ns : List HeldName) (ms : List ModelVar) → AreMadeOf ns ms → HasParts ms (all_places ns)

-- and have the nodes of these
abbrev pub NodesMade : Type 0
NodesMade = (s : Run) (ns : List HeldName) (ms : List ModelVar) → AreVars s ns → AreMadeOf ns ms → AreNodes s.arena false 0 (ids ms) (parts ms)

-- a name has the slot of its declaration, and is a variable where that is var
pub record IsNameOf (d : Decl) (n : HeldName) : Type 0 where
  pub slot : n.slot ≡ d.slot
  pub var : is_var_kind n.kind ≡ d.ty.ty.var

abbrev pub AreNamesOf : List Decl → List HeldName → Type 0
AreNamesOf [] [] = Unit {0}
AreNamesOf (d ∷ ds) (n ∷ ns) = IsNameOf d n × AreNamesOf ds ns
AreNamesOf ds ns = ⊥

-- so the names in hand are those that the boundary of the walk speaks of
abbrev pub NamesMade : Type 0
NamesMade = (ds : List Decl) (ns : List HeldName) (ms : List ModelVar) → AreNamesOf ds ns → AreMadeOf ns ms → map named_as ns ≡ names_of ds ms

-- ---- the nodes of variables are kept as the run goes on, and those of one more name have the next numbers

abbrev pub VarsKept : Type 0
VarsKept = (old new : Run) (ns : List HeldName) → Grew old.arena new.arena → AreVars old ns → AreVars new ns

-- how many variables' parts there are
abbrev pub part_count : List HeldName → ℕ
part_count ns = length (free_ids (all_places ns))

abbrev pub MoreVars : Type 0
MoreVars = (s : Run) (ns : List HeldName) (n : HeldName) → AreVars s ns → AreNodes s.arena false (part_count ns) (free_ids (kind_places n.kind)) (all_parts (map domain_of (kind_places n.kind))) → AreVars s (ns ++ n ∷ [])

-- and the next slot
abbrev pub MoreSlots : Type 0
MoreSlots = (k : ℕ) (ns : List HeldName) (n : HeldName) → SlotsFrom k ns → n.slot ≡ k + length ns → SlotsFrom k (ns ++ n ∷ [])

-- ---- the test at the end: each choice node is that of the choice with its number

abbrev pub AllNoted : Run → Type 0
AllNoted s = (id : ℕ) (e : Entry) → slice_get s.arena id ≡ Some e → is_local e.node.kind ≡ true → slice_get (free_ids s.choices) e.node.b ≡ Some id

abbrev pub WholeByTest : Type 0
WholeByTest = (s : Run) → IsRun s → AllNoted s → local_ids s.arena ≡ free_ids s.choices
