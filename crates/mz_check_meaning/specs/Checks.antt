-- WHAT A SCOPED MODEL IS TYPED TO. First come the types of all declarations and functions; then functions that are declared twice; and
-- then values, bodies and all other items: each of these in source order. The first fault of the first of them is the answer.
use Rattle.std.specs.Prelude.{◌≡◌, ℕ, ◌+◌, pos, Bool, true, false, ◌&&◌, ◌||◌, List, [], ◌∷◌, ◌++◌, map, length, Option, Some, None, nat_lt, nat_eq, slice_get, if◌then◌else◌, Ok, Err}
use Rattle.std.specs.List.{flat_map, enumerate_from}
use Rattle.mz_base.specs.declared.fault.Span.{Span}
use Rattle.mz_base.specs.declared.fault.Fault.{Fault}
use Rattle.mz_base.specs.Names.{text_of}
use Rattle.mz_core.specs.Tree.{Tree, Decl}
use Rattle.mz_core.specs.Program.{Function, Goal, PlainProgram}
use Rattle.mz_tree.specs.Tree as source
use Rattle.mz_tree.specs.Tree.{Name, Declaration}
use Rattle.mz_tree.specs.Items as item
use Rattle.mz_tree.specs.Items.{FunctionTree, GoalTree}
use Rattle.mz_scope_names.specs.Sketches.{has_parameters}
use Rattle.mz_scope_order.specs.Parts.{EnumTree, name_of, place_of, function_at}
use Rattle.mz_scope_order.specs.Scoped.{ScopedTree}
use Rattle.mz_scope_order.specs.Subjects.{Subject}
use Rattle.mz_check_meaning.specs.declared.meaning.Meaning.{Meaning}
use Rattle.mz_check_meaning.specs.declared.meaning.Meaning.TheVariants as meaning
use Rattle.mz_check_meaning.specs.Tests.{Test, ◌>>=◌, ◌>>◌, each}
use Rattle.mz_check_meaning.specs.Models.{Model, Heading, signature_of, entry_of, type_of_decl, heading_of}
use Rattle.mz_check_meaning.specs.Headings.{with_types}
use Rattle.mz_check_meaning.specs.Duplicates.{Signed, duplicate_after}
use Rattle.mz_check_meaning.specs.Texts.{text_names}
use Rattle.mz_check_meaning.specs.Items.{decl, function, constraint, goal, output}

-- WHAT NAMES STAND FOR

abbrev pub numbered : {A : Type 0} → List A → List (ℕ × A)
numbered xs = enumerate_from 0 xs

abbrev pub case_meaning : ℕ → ℕ × (Name × Span) → Name × Meaning
case_meaning e c = (c.1.0, meaning.Case e (pos (c.0 + 1)))

abbrev pub enum_meanings : ℕ × EnumTree → List (Name × Meaning)
enum_meanings e = (e.1.name, meaning.Enum e.0) ∷ map (case_meaning e.0) (numbered e.1.cases)

abbrev pub decl_meaning : ℕ × Declaration → Name × Meaning
decl_meaning d = (name_of d.1, meaning.Decl d.0)

abbrev pub function_meaning : Bool → ℕ → Name → List (Name × Meaning)
function_meaning true f n = []
function_meaning false f n = (n, meaning.Function f) ∷ []

abbrev pub bare_meaning : ℕ × FunctionTree → List (Name × Meaning)
bare_meaning f = function_meaning (has_parameters f.1.params) f.0 f.1.name

abbrev pub applied_name : Bool → ℕ → Name → List (Name × ℕ)
applied_name true f n = (n, f) ∷ []
applied_name false f n = []

abbrev pub with_parameters : ℕ × FunctionTree → List (Name × ℕ)
with_parameters f = applied_name (has_parameters f.1.params) f.0 f.1.name

-- a model of which no type is typed yet
unfoldable pub untyped : List (List ℕ) → ScopedTree → Model
untyped texts s = record {
  texts = texts;
  names = flat_map enum_meanings (numbered s.enums) ++ (map decl_meaning (numbered s.decls) ++ flat_map bare_meaning (numbered s.functions));
  functions = flat_map with_parameters (numbered s.functions);
  function_names = map (λ f. f.name) s.functions;
  count = length s.decls;
  types = [];
  headings = [];
}

-- SOURCE ORDER: the files in their order, then the place in the file. What stands at one place goes by numbers: declarations first, each
-- kind by its own, which for a declaration is its slot.

abbrev pub stands_before : Span → Span → Bool
stands_before a b = nat_lt a.file b.file || (nat_eq a.file b.file && nat_lt a.byte b.byte)

-- a fault, with a place of the item in which it is met
abbrev pub Met : Type 0
Met = Span × Fault

abbrev pub met : {A : Type 0} → Span → Test A → List Met
met at (Ok x) = []
met at (Err f) = (at, f) ∷ []

unfoldable pub first_from : Met → List Met → Met
first_from x [] = x
first_from x (y ∷ ys) = first_from (if stands_before y.0 x.0 then y else x) ys

-- a test that stops at the fault that is met first, if there is one
abbrev pub none_met : List Met → Test (Unit {0})
none_met [] = Ok tt
none_met (x ∷ xs) = Err (first_from x xs).1

-- TYPES

abbrev pub type_met : Model → ℕ × Declaration → List Met
type_met m d = met (place_of d.1) (type_of_decl m (place_of d.1) d.0)

abbrev pub heading_met : Model → ℕ × FunctionTree → List Met
heading_met m f = met f.1.span (heading_of m f.1.span f.0)

unfoldable pub types_met : ScopedTree → Model → List Met
types_met s m = flat_map (type_met m) (numbered s.decls) ++ flat_map (heading_met m) (numbered s.functions)

-- FUNCTIONS DECLARED TWICE

abbrev pub signed_by : ScopedTree → Name × ℕ → Option (Test Heading) → List Signed
signed_by s f (Some (Ok h)) = record { name = f.0; span = (function_at s.functions f.1).span; params = (signature_of h).params } ∷ []
signed_by s f _ = []

-- the functions with parameters, in source order
unfoldable pub signed : ScopedTree → Model → List Signed
signed s m = flat_map (λ f. signed_by s f (entry_of f.1 m.headings)) m.functions

abbrev pub no_fault : Option Fault → Test (Unit {0})
no_fault None = Ok tt
no_fault (Some f) = Err f

-- ALL ELSE

abbrev pub tree_place : source.Tree → Span
tree_place (source.node at f) = at

-- an assigned value is met at its assignment
abbrev pub value_place : Declaration → Span
value_place (source.declaration t n at (source.just e)) = tree_place e
value_place (source.declaration t n at source.nothing) = at

abbrev pub goal_place : GoalTree → List Span
goal_place item.satisfy = []
goal_place (item.minimize e) = tree_place e ∷ []
goal_place (item.maximize e) = tree_place e ∷ []

abbrev pub decl_met : Model → ℕ × Declaration → List Met
decl_met m d = met (value_place d.1) (decl m d.0 d.1)

abbrev pub function_met : Model → ℕ × FunctionTree → List Met
function_met m f = met (tree_place f.1.body) (function m f.0 f.1)

abbrev pub tree_met : (source.Tree → Test Tree) → source.Tree → List Met
tree_met go e = met (tree_place e) (go e)

unfoldable pub items_met : ScopedTree → Model → List Met
items_met s m =
    flat_map (decl_met m) (numbered s.decls)
    ++ (flat_map (function_met m) (numbered s.functions)
    ++ (flat_map (tree_met (constraint m)) s.constraints
    ++ (flat_map (λ at. met at (goal m s.goal)) (goal_place s.goal)
    ++ flat_map (tree_met (output m)) s.outputs)))

-- the typed parts of a model; declarations stand in the order of evaluation
pub record Sections : Type 0 where
  pub decls : List Decl
  pub functions : List Function
  pub constraints : List Tree
  pub goal : Goal
  pub outputs : List Tree

unfoldable pub sections : ScopedTree → Model → Test Sections
sections s m = do
  ds ← each (λ d. decl m d.0 d.1) (numbered s.decls)
  fs ← each (λ f. function m f.0 f.1) (numbered s.functions)
  cs ← each (constraint m) s.constraints
  g ← goal m s.goal
  os ← each (output m) s.outputs
  Ok (record { decls = ds; functions = fs; constraints = cs; goal = g; outputs = os })

-- THE WHOLE, with types that were typed in this order and without data; with it, `checked_with_data` of mz_check_data
unfoldable pub checked_with : ScopedTree → Model → Test Sections
checked_with s m = do
  none_met (types_met s m)
  no_fault (duplicate_after m.texts [] (signed s m))
  none_met (items_met s m)
  sections s m

unfoldable pub checked : List (List ℕ) → ScopedTree → List Subject → Test Sections
checked texts s order = checked_with s (with_types s (untyped texts s) order)

-- THE PROGRAM

abbrev pub decl_in : List Decl → List ℕ → List (Option Decl)
decl_in ds ks = map (slice_get ds) ks

abbrev pub same_place : Span → Span → Bool
same_place a b = nat_eq a.file b.file && nat_eq a.byte b.byte

abbrev pub comes_before : Decl → Decl → Bool
comes_before d e = stands_before d.span e.span || (same_place d.span e.span && nat_lt d.slot e.slot)

-- none of these comes before the declaration
abbrev pub NoneComesBefore : Decl → List Decl → Type 0
NoneComesBefore d [] = Unit {0}
NoneComesBefore d (e ∷ es) = (comes_before e d ≡ false) × NoneComesBefore d es

abbrev pub StandInSourceOrder : List Decl → Type 0
StandInSourceOrder [] = Unit {0}
StandInSourceOrder (d ∷ ds) = NoneComesBefore d ds × StandInSourceOrder ds

abbrev pub text_entry : List (List ℕ) → ℕ → ℕ × List ℕ
text_entry table n = (n, text_of table n)

-- The declarations stand in source order, and `order` lists their places in the order of evaluation. `texts` has the text of each name that
-- stands for a text literal, in the order in which they are first met
pub record IsProgramOf (table : List (List ℕ)) (s : ScopedTree) (all : Sections) (p : PlainProgram) : Type 0 where
  pub ascending : StandInSourceOrder p.decls
  pub ordered : decl_in p.decls p.order ≡ map Some all.decls
  pub counted : length p.decls ≡ length all.decls
  pub functions : p.functions ≡ all.functions
  pub constraints : p.constraints ≡ all.constraints
  pub goal : p.goal ≡ all.goal
  pub outputs : p.outputs ≡ all.outputs
  pub cases : p.cases ≡ map (λ e. map (λ c. text_of table c.0) e.cases) s.enums
  pub text_of_each : p.texts ≡ map (text_entry table) (text_names p)
