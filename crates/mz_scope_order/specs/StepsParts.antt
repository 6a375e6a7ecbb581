-- Mirror of src/decls.rt, src/enums.rt and src/items.rt; private clauses only.
use Rattle.std.specs.Prelude.{List, [], ◌∷◌, Option, Some, None}
use Rattle.mz_base.specs.declared.fault.Span.{Span}
use Rattle.mz_tree.specs.Tree as pure
use Rattle.mz_tree.specs.Tree.{Name, Maybe, Declaration}
use Rattle.mz_tree.specs.Items.{GoalTree, ItemTree, declare, solve, enum}
use Rattle.mz_tree.specs.Data.{Given}
use Rattle.mz_scope_names.specs.Given.{cases_in}
use Rattle.mz_scope_order.specs.Parts.{or_assigned, cases_at, EnumTree}
use Rattle.mz_scope_order.specs.StepsTables.{or_next}

-- a declaration's own value, or else that of its name
abbrev pub own_or : (Name → Maybe) → Declaration → Maybe
own_or f (pure.declaration t n s e) = or_assigned e (f n)

abbrev pub filled_by : (Name → Maybe) → Declaration → Declaration
filled_by f (pure.declaration t n s e) = pure.declaration t n s (or_assigned e (f n))

abbrev pub filled_in : (Name → Maybe) → ItemTree → List Declaration
filled_in f (declare d) = filled_by f d ∷ []
filled_in f i = []

abbrev pub cases_of_given : Option Given → List (Name × Span)
cases_of_given None = []
cases_of_given (Some d) = cases_at d.at (cases_in d.value)

abbrev pub own_cases : Option (List (Name × Span)) → List (Name × Span) → List (Name × Span)
own_cases None later = later
own_cases (Some cs) later = cs

abbrev pub enum_by : (Name → Option Given) → ItemTree → List EnumTree
enum_by f (enum n s cs) = record { name = n; span = s; cases = own_cases cs (cases_of_given (f n)) } ∷ []
enum_by f i = []

abbrev pub goal_asked : ItemTree → Option GoalTree
goal_asked (solve s g) = Some g
goal_asked i = None

-- the goal of the first solve item
unfoldable pub first_goal : List ItemTree → Option GoalTree
first_goal [] = None
first_goal (i ∷ is) = or_next (goal_asked i) (first_goal is)
