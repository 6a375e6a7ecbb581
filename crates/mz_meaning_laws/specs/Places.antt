-- ALL PLACES of a typed program: those of its nodes, of the operands of its chains, and of the names and the types that it declares.
use Rattle.std.specs.Prelude.{◌≡◌, refl, ℕ, pos, List, [], ◌∷◌, ◌++◌, Some}
use Rattle.std.specs.List.{flat_map}
use Rattle.mz_base.specs.declared.fault.Span.{Span}
use Rattle.mz_core.specs.Program.{Function, Goal, PlainProgram}
use Rattle.mz_core.specs.Tree.{Tree, Shape, Steps, Items, Decl, DeclaredType, declares}
use Rattle.mz_core.specs.Tree as tree
use Rattle.mz_core.specs.Nodes.{nodes_in, in_decl, in_type, in_goal}
use Rattle.mz_meaning.specs.Written.{col, int, num, slot, let_in, plain, decl}

-- of the names that a let declares, and of their types
unfoldable pub item_places : Items → List Span
item_places tree.no_items = []
item_places (tree.a_decl s n at q t ixs set value is) = at ∷ q ∷ item_places is
item_places (tree.a_constraint e is) = item_places is

-- where the operands after the operators of a chain begin
unfoldable pub step_places : Steps → List Span
step_places tree.no_steps = []
step_places (tree.a_step sp r t l m e ss) = sp ∷ step_places ss

abbrev pub local_places : Shape → List Span
local_places (tree.chain e ss) = step_places ss
local_places (tree.let_in is e) = item_places is
local_places f = []

-- a node's own place, those of its operands, and those of the names and types that it declares
abbrev pub own_places : Tree → List Span
own_places (tree.node at t f) = at ∷ local_places f

abbrev pub places_in : Tree → List Span
places_in e = flat_map own_places (nodes_in e)

-- a declared type's place, and those in its sets
abbrev pub type_places : DeclaredType → List Span
type_places t = t.span ∷ flat_map own_places (in_type t)

-- a declaration's name and type, and what is in its sets and its value
abbrev pub decl_places : Decl → List Span
decl_places d = d.span ∷ d.ty.span ∷ flat_map own_places (in_decl d)

abbrev pub function_places : Function → List Span
function_places f = f.span ∷ flat_map decl_places f.params ++ (type_places f.result ++ places_in f.body)

abbrev pub goal_places : Goal → List Span
goal_places g = flat_map own_places (in_goal g)

unfoldable pub places_of : PlainProgram → List Span
places_of p = flat_map decl_places p.decls ++ (flat_map function_places p.functions ++ (flat_map places_in p.constraints ++ (goal_places p.goal ++ flat_map places_in p.outputs)))

-- let { int: y = 2 } in y
pub of_a_let : places_in (let_in 1 int (declares (decl 12 5 (plain int) (Some (num 16 (pos 2)))) ∷ []) (slot 23 int 5)) ≡ col 1 ∷ col 12 ∷ (plain int).span ∷ col 16 ∷ col 23 ∷ []
unfolding nodes_in item_places
of_a_let = refl
