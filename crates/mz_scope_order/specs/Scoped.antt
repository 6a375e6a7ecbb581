-- What the scoped model of a model and its data is.
use Rattle.std.specs.Prelude.{◌≡◌, ℕ, List, [], ◌∷◌, ◌++◌, Bool, true, false, Option, Some, None, map}
use Rattle.std.specs.Borrow.{Bor}
use Rattle.std.specs.Option.{option_map}
use Rattle.std.specs.List.{flat_map, All}
use Rattle.mz_base.specs.declared.fault.Fault.{Fault}
use Rattle.mz_base.specs.declared.kind.Kind.TheVariants.{Cyclic}
use Rattle.mz_base.specs.Faults.{fault_at}
use Rattle.mz_tree.specs.declared.expr.Form.TheViews.{out-Decl}
use Rattle.mz_tree.specs.declared.expr.Expr.{Expr}
use Rattle.mz_tree.specs.declared.item.Function.{Function}
use Rattle.mz_tree.specs.declared.item.Goal.{Goal}
use Rattle.mz_tree.specs.declared.data.DataItem.{DataItem}
use Rattle.mz_tree.specs.Tree as pure
use Rattle.mz_tree.specs.Tree.{Name, Tree, Declaration, maybe}
use Rattle.mz_tree.specs.Items.{GoalTree, FunctionTree, ItemTree, function_of, goal, satisfy}
use Rattle.mz_tree.specs.Views.{tree, written}
use Rattle.mz_tree.specs.Data.{Given, given}
use Rattle.mz_scope_names.specs.Sets.{holds}
use Rattle.mz_scope_names.specs.Sketches.{Sketch, decl_sketch, function_sketch, has_parameters}
use Rattle.mz_scope_order.specs.Dependencies.{IsSequence, IsStuckAt, IsBackAt, AreRanks}
use Rattle.mz_scope_order.specs.declared.parts.ModelParts.{ModelParts}
use Rattle.mz_scope_order.specs.declared.scoped.Scoped.{Scoped}
use Rattle.mz_scope_order.specs.declared.scoped.ScopedDecl.{ScopedDecl}
use Rattle.mz_scope_order.specs.declared.scoped.ScopedEnum.{ScopedEnum}
use Rattle.mz_scope_order.specs.Parts.{EnumTree, decls_of, functions_of, constraint_in, output_in, goal_of, enums_of, given_of, name_of, place_of, decl_at, function_at}

-- the scoped model without where it lies in memory
pub record ScopedTree : Type 0 where
  pub enums : List EnumTree
  pub decls : List Declaration
  pub functions : List FunctionTree
  pub constraints : List Tree
  pub goal : GoalTree
  pub outputs : List Tree
  pub given : List Given

abbrev pub enum_tree : ScopedEnum → EnumTree
enum_tree e = record { name = e.name; span = e.span; cases = e.cases.items }

-- what references stand for
abbrev pub lent_function : Bor Function → FunctionTree
lent_function f = function_of f.now

abbrev pub lent_tree : Bor Expr → Tree
lent_tree e = tree e.now

abbrev pub lent_given : Bor DataItem → Given
lent_given d = given d.now

-- a declaration with its value
abbrev pub scoped_decl : ScopedDecl → Declaration
scoped_decl d = pure.declaration (written (out-Decl d.decl.now).ty) (out-Decl d.decl.now).name (out-Decl d.decl.now).span (maybe (option_map lent_tree d.value))

-- what is asked for; without a solve item, to satisfy
abbrev pub asked : Option (Bor Goal) → GoalTree
asked None = satisfy
asked (Some g) = goal g.now

abbrev pub scoped_tree : Scoped → ScopedTree
scoped_tree s = record {
  enums = map enum_tree s.enums.items;
  decls = map scoped_decl s.decls.items;
  functions = map lent_function s.functions.items;
  constraints = map lent_tree s.constraints.items;
  goal = asked s.goal;
  outputs = map lent_tree s.outputs.items;
  given = map lent_given s.given.items;
}

-- the parts, gathered in the order of the text, without where they lie in memory
abbrev pub parts_tree : ModelParts → ScopedTree
parts_tree p = record {
  enums = map enum_tree p.enums.items;
  decls = map scoped_decl p.decls.items;
  functions = map lent_function p.functions.items;
  constraints = map lent_tree p.constraints.items;
  goal = asked p.goal;
  outputs = map lent_tree p.outputs.items;
  given = map lent_given p.given.items;
}

-- the parts of a model with its data, each in the order of the text
abbrev pub source_parts : List ItemTree → List Given → ScopedTree
source_parts is ds = record {
  enums = enums_of is ds;
  decls = decls_of is;
  functions = functions_of is;
  constraints = flat_map constraint_in is;
  goal = goal_of is;
  outputs = flat_map output_in is;
  given = given_of is ds;
}

-- the same with its declarations in this order of their places
abbrev pub in_order : ScopedTree → List ℕ → ScopedTree
in_order s order = record s { decls = map (decl_at s.decls) order }

-- no name stands twice in the list
abbrev pub AreDistinct : List Name → Type 0
AreDistinct [] = Unit {0}
AreDistinct (n ∷ ns) = (holds n ns ≡ false) × AreDistinct ns

-- the names that share one space: of enums, cases, declarations and functions without parameters
abbrev pub enum_names : EnumTree → List Name
enum_names e = e.name ∷ map (λ c. c.0) e.cases

abbrev pub name_unless : Bool → Name → List Name
name_unless true n = []
name_unless false n = n ∷ []

abbrev pub bare_name : FunctionTree → List Name
bare_name f = name_unless (has_parameters f.params) f.name

abbrev pub shared_names : ScopedTree → List Name
shared_names s = flat_map enum_names s.enums ++ (map name_of s.decls ++ flat_map bare_name s.functions)

-- What the declarations and the functions use, in the order of the text.
abbrev pub decl_sketches : List ItemTree → List Sketch
decl_sketches is = map decl_sketch (decls_of is)

abbrev pub function_sketches : List ItemTree → List Sketch
function_sketches is = map function_sketch (functions_of is)

-- Declarations in order of evaluation, all else in the order of the text; and what typing rests on: no name stands twice in the
-- shared space, data is of declarations, and no function's types lead back to its name.
pub record IsScoped (is : List ItemTree) (ds : List Given) (s : ScopedTree) : Type 0 where
  pub order : List ℕ
  pub sequence : IsSequence (decl_sketches is) (function_sketches is) order
  pub decls : s.decls ≡ map (decl_at (decls_of is)) order
  pub enums : s.enums ≡ enums_of is ds
  pub functions : s.functions ≡ functions_of is
  pub constraints : s.constraints ≡ flat_map constraint_in is
  pub goal : s.goal ≡ goal_of is
  pub outputs : s.outputs ≡ flat_map output_in is
  pub given : s.given ≡ given_of is ds
  pub distinct : AreDistinct (shared_names s)
  pub declared : All (λ d. holds d.name (map name_of s.decls) ≡ true) s.given

-- Numbers by which the types of a scoped model's declarations and functions can be typed on demand.
pub record AreRanked (s : ScopedTree) : Type 0 where
  pub of_decl : ℕ → ℕ
  pub of_function : ℕ → ℕ
  pub are : AreRanks (map decl_sketch s.decls) (map function_sketch s.functions) of_decl of_function

-- A model that passes the tests of names is refused where not all declarations have their turn, at the first that hasn't, or else at
-- the first function whose types lead back to its name.
pub data IsCyclic (is : List ItemTree) : Fault → Type 0 where
  at_decl : (d : ℕ) → IsStuckAt (decl_sketches is) (function_sketches is) d → IsCyclic is (fault_at Cyclic (place_of (decl_at (decls_of is) d)))
  at_function : (f : ℕ) → IsBackAt (decl_sketches is) (function_sketches is) f → IsCyclic is (fault_at Cyclic (function_at (functions_of is) f).span)
