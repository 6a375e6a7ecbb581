-- WHAT THE WALK OVER A MODEL HAS IN HAND: a run, the names that are declared, the constraints and the objective with their cells, and roots. And what its code is to ensure of them, so that the instance that it makes is that of the model.
use Rattle.std.specs.Prelude.{◌≡◌, ℕ, suc, true, false, List, [], ◌∷◌, ◌++◌, map, Option, Some, None}
use Rattle.std.specs.List.{flat_map}
use Rattle.std.specs.Option.{option_map}
use Rattle.mz_base.specs.declared.fault.Fault.{Fault}
use Rattle.mz_value.specs.Ranges.{Range}
use Rattle.mz_value.specs.Contents.{Content, contents}
use Rattle.mz_value.specs.Contents as values
use Rattle.mz_core.specs.Program.{PlainProgram}
use Rattle.mz_arena.specs.declared.instance.InstanceGoal.{InstanceGoal}
use Rattle.mz_arena.specs.declared.instance.InstanceGoal.TheVariants.{Satisfy, Minimize, Maximize}
use Rattle.mz_arena.specs.Instances.{Instance}
use Rattle.mz_arena.specs.Values.{Term, as_number, is_true}
use Rattle.mz_arena.specs.Numbering.{local_ids}
use Rattle.mz_meaning.specs.Runs.{Out, Stopped, start}
use Rattle.mz_meaning.specs.Cells.{Cell, value_of}
use Rattle.mz_meaning.specs.Contexts.{Positive}
use Rattle.mz_meaning.specs.Domains.{Domains, Fixed, Scalar, Places}
use Rattle.mz_meaning.specs.Walk.{Limits, Assignment, Declared, Walked, walk}
use Rattle.mz_meaning.specs.Solutions.{MatchesValue, IsMet}
use Rattle.mz_instance.specs.Parts.{AreNodes}
use Rattle.mz_model_meaning.specs.Decoded.{Named}
use Rattle.mz_model_meaning.specs.Modeled.{names_in, par_values, HasGoalOf}
use Rattle.mz_symbol.specs.declared.types.Free.{Free}
use Rattle.mz_symbol.specs.Choices.{all_parts}
use Rattle.mz_symbol.specs.Symbols.{symbol_value, domain_of, free_ids, all_there}
use Rattle.mz_symbol.specs.Runs.{Run, IsRun}
use Rattle.mz_symbol.specs.Readings.{Reading, IsGiven, Reads, state_of}

-- what a cell in code is, under each reading. It names no run, so it stays what it is while the run goes on
abbrev pub View : Type 0
View = Reading → Cell

-- ---- names

-- a par name, a variable, or an array of variables with its index ranges
pub data NameKind : Type 0 where
  ParName : NameKind
  OnePlace : Free → NameKind
  ManyPlaces : List Range → List Free → NameKind

abbrev pub kind_places : NameKind → List Free
kind_places ParName = []
kind_places (OnePlace f) = f ∷ []
kind_places (ManyPlaces ix fs) = fs

abbrev pub kind_domains : NameKind → Domains
kind_domains ParName = Fixed
kind_domains (OnePlace f) = Scalar (domain_of f)
kind_domains (ManyPlaces ix fs) = Places ix (map domain_of fs)

-- a declared name: its cell, the cell of the value that it is declared with, and the roots that say that it has this value
pub record HeldName : Type 0 where
  pub slot : ℕ
  pub kind : NameKind
  pub cell : View
  pub value : Option View
  pub roots : List ℕ

-- a constraint: its cell, and the roots that say that it is met
pub record HeldConstraint : Type 0 where
  pub cell : View
  pub roots : List ℕ

abbrev pub cell_at : Reading → Option View → Option Cell
cell_at r None = None
cell_at r (Some v) = Some (v r)

abbrev pub name_at : Reading → HeldName → Declared
name_at r n = record { slot = n.slot; domains = kind_domains n.kind; cell = n.cell r; value = cell_at r n.value }

abbrev pub names_at : Reading → List HeldName → List Declared
names_at r ns = map (name_at r) ns

abbrev pub named_as : HeldName → Named
named_as n = record { slot = n.slot; domains = kind_domains n.kind }

-- the places of all names, in order
abbrev pub all_places : List HeldName → List Free
all_places ns = flat_map (λ n. kind_places n.kind) ns

-- each part of a place has its node, the next variable
abbrev pub AreVars : Run → List HeldName → Type 0
AreVars s ns = AreNodes s.arena false 0 (free_ids (all_places ns)) (all_parts (map domain_of (all_places ns)))

-- ---- assignments

-- two values are there, and are the same
pub record AreOne (x y : Option Content) : Type 0 where
  pub content : Content
  pub first : x ≡ Some content
  pub second : y ≡ Some content

-- the value of an array, from those of its places
abbrev pub array_value : List Range → Option (List Content) → Option Content
array_value ix xs = option_map (λ xs. values.array ix (contents xs)) xs

abbrev pub places_value : (ℕ → Term) → List Free → Option (List Content)
places_value t fs = all_there (map (λ f. symbol_value t f.symbol) fs)

-- a slot has the value that the name's places have; nothing is asked of a par name
abbrev pub IsAssigned : (ℕ → Term) → Assignment → ℕ → NameKind → Type 0
IsAssigned t a slot ParName = Unit {0}
IsAssigned t a slot (OnePlace f) = AreOne (a slot) (symbol_value t f.symbol)
IsAssigned t a slot (ManyPlaces ix fs) = AreOne (a slot) (array_value ix (places_value t fs))

abbrev pub AllAssigned : (ℕ → Term) → Assignment → List HeldName → Type 0
AllAssigned t a [] = Unit {0}
AllAssigned t a (n ∷ ns) = IsAssigned t a n.slot n.kind × AllAssigned t a ns

-- AN ASSIGNMENT GOES WITH A READING where the slots have the values that the names have under it. Of a reading without values nothing is asked
abbrev pub Assigned : Reading → Assignment → List HeldName → Type 0
Assigned r a ns = IsGiven r.mode → AllAssigned r.term a ns

-- ---- roots

abbrev pub AllTrue : (ℕ → Term) → List ℕ → Type 0
AllTrue t [] = Unit {0}
AllTrue t (r ∷ rs) = (is_true (t r) ≡ true) × AllTrue t rs

pub record Iff (A B : Type 0) : Type 0 where
  pub to : A → B
  pub from : B → A

-- A NAME'S ROOTS SAY THAT IT HAS ITS DECLARED VALUE, where the assignment has the values of these names
pub record IsRootedName (s : Run) (ns : List HeldName) (n : HeldName) : Type 0 where
  pub by : (r : Reading) (a : Assignment) → IsGiven r.mode → Reads r s → AllAssigned r.term a ns → Iff (AllTrue r.term n.roots) (MatchesValue a (name_at r n))

-- A CONSTRAINT'S ROOTS SAY THAT IT IS MET
pub record IsRooted (s : Run) (c : HeldConstraint) : Type 0 where
  pub by : (r : Reading) → IsGiven r.mode → Reads r s → Iff (AllTrue r.term c.roots) (IsMet (c.cell r))

-- each of the last names, where the first list has all
abbrev pub AreRootedNames : Run → List HeldName → List HeldName → Type 0
AreRootedNames s all [] = Unit {0}
AreRootedNames s all (n ∷ ns) = IsRootedName s all n × AreRootedNames s all ns

abbrev pub AreRooted : Run → List HeldConstraint → Type 0
AreRooted s [] = Unit {0}
AreRooted s (c ∷ cs) = IsRooted s c × AreRooted s cs

-- what is minimized or maximized is the integer of this node
abbrev pub IsAim : Run → View → ℕ → Type 0
IsAim s v id = (r : Reading) → IsGiven r.mode → Reads r s → value_of (v r) ≡ option_map values.int (as_number (r.term id))

abbrev pub IsAimed : Run → Option View → InstanceGoal → Type 0
IsAimed s None Satisfy = Unit {0}
IsAimed s None (Minimize id) = ⊥
IsAimed s None (Maximize id) = ⊥
IsAimed s (Some v) Satisfy = ⊥
IsAimed s (Some v) (Minimize id) = IsAim s v id
IsAimed s (Some v) (Maximize id) = IsAim s v id

-- ---- all of it

pub record Hand : Type 0 where
  pub run : Run
  pub names : List HeldName
  pub constraints : List HeldConstraint
  pub objective : Option View

abbrev pub cells_at : Reading → List HeldConstraint → List Cell
cells_at r cs = map (λ c. c.cell r) cs

-- what a walk gives, under a reading
abbrev pub walked_at : Reading → Hand → Walked
walked_at r h = record { names = names_at r h.names; constraints = cells_at r h.constraints; objective = cell_at r h.objective }

abbrev pub name_roots : List HeldName → List ℕ
name_roots ns = flat_map (λ n. n.roots) ns

abbrev pub constraint_roots : List HeldConstraint → List ℕ
constraint_roots cs = flat_map (λ c. c.roots) cs

-- WHAT THE CODE OF THE WALK IS TO ENSURE, where it goes through
pub record IsHeld (l : Limits) (p : PlainProgram) (inst : Instance) (h : Hand) : Type 0 where
  pub run : IsRun h.run
  pub vars : AreVars h.run h.names
  -- under each reading the walk gives what is in hand
  pub walks : (r : Reading) (a : Assignment) → Reads r h.run → Assigned r a h.names → walk Positive l r.mode a p start ≡ Out (walked_at r h) (state_of r h.run)
  pub rooted : AreRootedNames h.run h.names h.names
  pub met : AreRooted h.run h.constraints
  pub goal : HasGoalOf p.goal inst.goal
  pub aimed : IsAimed h.run h.objective inst.goal
  -- the instance is made of it
  pub arena : inst.arena ≡ h.run.arena
  pub roots : inst.roots ≡ name_roots h.names ++ constraint_roots h.constraints
  pub names : map named_as h.names ≡ names_in p inst
  pub pars : (r : Reading) → par_values (names_at r h.names) ≡ inst.pars
  -- each choice node is a choice's: one pass over the arena tests it at the end
  pub whole : local_ids h.run.arena ≡ free_ids h.run.choices

-- ---- where it stops

-- the slots are numbered from k on
abbrev pub SlotsFrom : ℕ → List HeldName → Type 0
SlotsFrom k [] = Unit {0}
SlotsFrom k (n ∷ ns) = (n.slot ≡ k) × SlotsFrom (suc k) ns

-- under each reading of this run, and each assignment that goes with it, the walk stops at this fault
abbrev pub WalkStops : Limits → PlainProgram → Fault → Run → List HeldName → Type 0
WalkStops l p f s ns = (r : Reading) (a : Assignment) → Reads r s → Assigned r a ns → walk Positive l r.mode a p start ≡ Stopped f

-- WHAT THE CODE OF THE WALK IS TO ENSURE, where it stops, with the names so far
pub record IsStopped (l : Limits) (p : PlainProgram) (f : Fault) (s : Run) (ns : List HeldName) : Type 0 where
  pub run : IsRun s
  pub vars : AreVars s ns
  pub slots : SlotsFrom 0 ns
  pub stops : WalkStops l p f s ns
