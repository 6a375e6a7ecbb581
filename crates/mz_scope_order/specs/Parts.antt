-- The parts of a model: what its items declare, constrain and show, in the order of the text, with the values that assignments give
-- and the cases that data gives.
use Rattle.std.specs.Prelude.{◌≡◌, ℕ, List, [], ◌∷◌, Bool, true, false, if◌then◌else◌, Option, Some, None, map, nat_eq, slice_index_or, refl}
use Rattle.std.specs.List.{flat_map}
use Rattle.mz_base.specs.declared.fault.Span.{Span}
use Rattle.mz_base.specs.Faults.{start_of}
use Rattle.mz_tree.specs.Tree as pure
use Rattle.mz_tree.specs.Tree.{Name, Tree, Maybe, Declaration}
use Rattle.mz_tree.specs.Items.{GoalTree, satisfy, FunctionTree, ItemTree, declare, assign, constraint, solve, output, function, enum}
use Rattle.mz_tree.specs.Data as data_tree
use Rattle.mz_tree.specs.Data.{Given}
use Rattle.mz_scope_names.specs.Given.{cases_in, enum_of, identifiers}
use Rattle.mz_scope_names.specs.Sets.{holds}

-- the value that an assignment item gives a name, or what comes after it
abbrev pub value_in : Name → ItemTree → Maybe → Maybe
value_in n (assign m s e) later = if nat_eq n m then pure.just e else later
value_in n i later = later

unfoldable pub assigned : Name → List ItemTree → Maybe
assigned n [] = pure.nothing
assigned n (i ∷ is) = value_in n i (assigned n is)

abbrev pub or_assigned : Maybe → Maybe → Maybe
or_assigned (pure.just e) later = pure.just e
or_assigned pure.nothing later = later

-- a declaration with the value that an assignment gives it
abbrev pub filled : List ItemTree → Declaration → Declaration
filled is (pure.declaration t n s e) = pure.declaration t n s (or_assigned e (assigned n is))

abbrev pub declared_in : ItemTree → List Declaration
declared_in (declare d) = d ∷ []
declared_in i = []

abbrev pub decls_of : List ItemTree → List Declaration
decls_of is = map (filled is) (flat_map declared_in is)

abbrev pub function_in : ItemTree → List FunctionTree
function_in (function f) = f ∷ []
function_in i = []

abbrev pub functions_of : List ItemTree → List FunctionTree
functions_of is = flat_map function_in is

abbrev pub constraint_in : ItemTree → List Tree
constraint_in (constraint e) = e ∷ []
constraint_in i = []

abbrev pub output_in : ItemTree → List Tree
output_in (output e) = e ∷ []
output_in i = []

abbrev pub goal_in : ItemTree → GoalTree → GoalTree
goal_in (solve s g) later = g
goal_in i later = later

-- the goal of the first solve item
unfoldable pub goal_of : List ItemTree → GoalTree
goal_of [] = satisfy
goal_of (i ∷ is) = goal_in i (goal_of is)

-- an enum with its cases
pub record EnumTree : Type 0 where
  pub name : Name
  pub span : Span
  pub cases : List (Name × Span)

-- cases from data have the place of the value
abbrev pub cases_at : Span → Option (List Name) → List (Name × Span)
cases_at at None = []
cases_at at (Some ns) = map (λ n. (n, at)) ns

unfoldable pub given_cases : Name → List Given → List (Name × Span)
given_cases n [] = []
given_cases n (d ∷ ds) = if nat_eq n d.name then cases_at d.at (cases_in d.value) else given_cases n ds

abbrev pub all_cases : Name → List Given → Option (List (Name × Span)) → List (Name × Span)
all_cases n ds None = given_cases n ds
all_cases n ds (Some cs) = cs

abbrev pub enum_in : List Given → ItemTree → List EnumTree
enum_in ds (enum n s cs) = record { name = n; span = s; cases = all_cases n ds cs } ∷ []
enum_in ds i = []

abbrev pub enums_of : List ItemTree → List Given → List EnumTree
enums_of is ds = flat_map (enum_in ds) is

-- the items of the data that are not of enums
abbrev pub unless : Bool → Given → List Given
unless true d = []
unless false d = d ∷ []

abbrev pub given_of : List ItemTree → List Given → List Given
given_of is ds = flat_map (λ d. unless (holds d.name (flat_map enum_of is)) d) ds

abbrev pub name_of : Declaration → Name
name_of (pure.declaration t n s e) = n

abbrev pub place_of : Declaration → Span
place_of (pure.declaration t n s e) = s

abbrev pub decl_at : List Declaration → ℕ → Declaration
decl_at ds k = slice_index_or ds k (pure.declaration (pure.written (start_of 0) pure.no_array false false false pure.base_bool) 0 (start_of 0) pure.nothing)

abbrev pub function_at : List FunctionTree → ℕ → FunctionTree
function_at fs k = slice_index_or fs k (record { name = 0; span = start_of 0; result = pure.written (start_of 0) pure.no_array false false false pure.base_bool; params = []; body = pure.node (start_of 0) pure.absent })

-- `a = 1; var int: a`: the declaration has the value
pub of_an_assignment : (r s t u : Span) → decls_of (assign 0 s (pure.node t pure.absent) ∷ declare (pure.declaration (pure.written r pure.no_array true false false pure.base_int) 0 u pure.nothing) ∷ []) ≡ pure.declaration (pure.written r pure.no_array true false false pure.base_int) 0 u (pure.just (pure.node t pure.absent)) ∷ []
unfolding assigned
of_an_assignment r s t u = refl

-- `enum E` with the data `E = {A}`
pub of_an_enum : (s t u : Span) → enums_of (enum 0 s None ∷ []) (record { name = 0; span = t; at = u; value = data_tree.set (data_tree.values (data_tree.ident 1 ∷ [])) } ∷ []) ≡ record { name = 0; span = s; cases = (1, u) ∷ [] } ∷ []
unfolding given_cases cases_in identifiers
of_an_enum s t u = refl

pub of_data_for_an_enum : (s t u : Span) → given_of (enum 0 s None ∷ []) (record { name = 0; span = t; at = u; value = data_tree.set data_tree.no_values } ∷ record { name = 1; span = t; at = u; value = data_tree.ident 0 } ∷ []) ≡ record { name = 1; span = t; at = u; value = data_tree.ident 0 } ∷ []
of_data_for_an_enum s t u = refl
