-- Items, without where they lie in memory, and how high their trees are.
use Rattle.std.specs.Prelude.{ℕ, max, List, [], ◌∷◌, map, Option}
use Rattle.std.specs.Option.{option_map}
use Rattle.mz_base.specs.declared.fault.Span.{Span}
use Rattle.mz_tree.specs.declared.item.Goal.{Goal}
use Rattle.mz_tree.specs.declared.item.Goal.TheVariants as goals
use Rattle.mz_tree.specs.declared.item.Function.{Function}
use Rattle.mz_tree.specs.declared.item.Item.{Item}
use Rattle.mz_tree.specs.declared.item.Item.TheVariants as items
use Rattle.mz_tree.specs.Tree.{Name, Tree, Declaration, Written}
use Rattle.mz_tree.specs.Views.{tree, declaration, written}
use Rattle.mz_tree.specs.Height.{height, declaration_height, written_height}

pub data GoalTree : Type 0 where
  satisfy : GoalTree
  minimize : Tree → GoalTree
  maximize : Tree → GoalTree

pub record FunctionTree : Type 0 where
  pub name : Name
  pub span : Span
  pub result : Written
  pub params : List Declaration
  pub body : Tree

pub data ItemTree : Type 0 where
  include : Name → Span → ItemTree
  declare : Declaration → ItemTree
  assign : Name → Span → Tree → ItemTree
  constraint : Tree → ItemTree
  solve : Span → GoalTree → ItemTree
  output : Tree → ItemTree
  function : FunctionTree → ItemTree
  enum : Name → Span → Option (List (Name × Span)) → ItemTree
  annotation : Name → ItemTree

-- what the code's items stand for
abbrev pub goal : Goal → GoalTree
goal goals.Satisfy = satisfy
goal (goals.Minimize e) = minimize (tree e)
goal (goals.Maximize e) = maximize (tree e)

abbrev pub function_of : Function → FunctionTree
function_of f = record { name = f.name; span = f.span; result = written f.result; params = map declaration f.params.items; body = tree f.body }

abbrev pub item : Item → ItemTree
item (items.Include n s) = include n s
item (items.Decl d) = declare (declaration d)
item (items.Assign n s e) = assign n s (tree e)
item (items.Constraint e) = constraint (tree e)
item (items.Solve s g) = solve s (goal g)
item (items.Output e) = output (tree e)
item (items.Function f) = function (function_of f)
item (items.Enum n s cs) = enum n s (option_map (λ v. v.items) cs)
item (items.Annotation n) = annotation n

abbrev pub goal_height : GoalTree → ℕ
goal_height satisfy = 0
goal_height (minimize e) = height e
goal_height (maximize e) = height e

abbrev pub declarations_height : List Declaration → ℕ
declarations_height [] = 0
declarations_height (d ∷ ds) = max (declaration_height d) (declarations_height ds)

-- the height of an item's highest expression
abbrev pub item_height : ItemTree → ℕ
item_height (include n s) = 0
item_height (declare d) = declaration_height d
item_height (assign n s e) = height e
item_height (constraint e) = height e
item_height (solve s g) = goal_height g
item_height (output e) = height e
item_height (function f) = max (written_height f.result) (max (declarations_height f.params) (height f.body))
item_height (enum n s cs) = 0
item_height (annotation n) = 0

abbrev pub items_height : List Item → ℕ
items_height [] = 0
items_height (i ∷ is) = max (item_height (item i)) (items_height is)
