-- Declarations without a value whose type has no bound: a var set of int, or an index `int`. They are refused before anything is evaluated.
use Rattle.std.specs.Prelude.{Bool, true, false, ◌&&◌, ◌||◌, List, [], ◌∷◌, ◌++◌, Option, Some, None, nat_lt, nat_eq, if◌then◌else◌}
use Rattle.std.specs.List.{flat_map}
use Rattle.mz_base.specs.declared.fault.Span.{Span}
use Rattle.mz_core.specs.Types.{PlainType, is_set}
use Rattle.mz_core.specs.Program.{Function, Goal, PlainProgram}
use Rattle.mz_core.specs.Program as program
use Rattle.mz_core.specs.Tree.{Tree, Shape, Trees, Maybe, Maybes, Rows, Branches, Steps, Gens, Items, Decl, declares, items, maybes, maybe}
use Rattle.mz_core.specs.Tree as tree

abbrev pub is_nothing : Maybe → Bool
is_nothing tree.nothing = true
is_nothing (tree.just e) = false

abbrev pub some_nothing : Maybes → Bool
some_nothing tree.no_maybes = false
some_nothing (tree.a_maybe m ms) = is_nothing m || some_nothing ms

-- of a type with these index sets and this set, and a value
abbrev pub is_unbounded : PlainType → Maybes → Maybe → Maybe → Bool
is_unbounded t ixs set value = is_nothing value && (some_nothing ixs || (is_set t.base && is_nothing set))

abbrev pub only_if : Bool → Span → List Span
only_if true at = at ∷ []
only_if false at = []

-- the names of such declarations in an expression, also in the lets within it
unfoldable mutual
  pub unbounded_in : Tree → List Span
  unbounded_in (tree.node at t form) = in_form form

  pub in_form : Shape → List Span
  in_form (tree.chain e ss) = unbounded_in e ++ in_steps ss
  in_form (tree.builtin n es) = in_trees es
  in_form (tree.call f es) = in_trees es
  in_form (tree.access e es) = unbounded_in e ++ in_trees es
  in_form (tree.array es) = in_trees es
  in_form (tree.rows rs) = in_rows rs
  in_form (tree.set es) = in_trees es
  in_form (tree.comp b e gs) = unbounded_in e ++ in_gens gs
  in_form (tree.choice bs e) = in_branches bs ++ in_maybe e
  in_form (tree.let_in is e) = in_items is ++ unbounded_in e
  in_form (tree.coerce c e) = unbounded_in e
  in_form _ = []

  pub in_maybe : Maybe → List Span
  in_maybe tree.nothing = []
  in_maybe (tree.just e) = unbounded_in e

  pub in_trees : Trees → List Span
  in_trees tree.no_trees = []
  in_trees (tree.a_tree e es) = unbounded_in e ++ in_trees es

  pub in_maybes : Maybes → List Span
  in_maybes tree.no_maybes = []
  in_maybes (tree.a_maybe m ms) = in_maybe m ++ in_maybes ms

  pub in_rows : Rows → List Span
  in_rows tree.no_rows = []
  in_rows (tree.a_row r rs) = in_trees r ++ in_rows rs

  pub in_branches : Branches → List Span
  in_branches tree.no_branches = []
  in_branches (tree.a_branch c e bs) = unbounded_in c ++ (unbounded_in e ++ in_branches bs)

  pub in_steps : Steps → List Span
  in_steps tree.no_steps = []
  in_steps (tree.a_step sp r t l m e ss) = unbounded_in e ++ in_steps ss

  pub in_gens : Gens → List Span
  in_gens tree.no_gens = []
  in_gens (tree.a_gen ss e m gs) = unbounded_in e ++ (in_maybe m ++ in_gens gs)

  pub in_items : Items → List Span
  in_items tree.no_items = []
  in_items (tree.a_decl s n at q t ixs set value is) = only_if (is_unbounded t ixs set value) at ++ (in_maybes ixs ++ (in_maybe set ++ (in_maybe value ++ in_items is)))
  in_items (tree.a_constraint e is) = unbounded_in e ++ in_items is

abbrev pub in_decl : Decl → List Span
in_decl d = in_items (items (declares d ∷ []))

-- a parameter and a result have no value, and are none of these declarations; their sets may hold some
abbrev pub in_sets : Decl → List Span
in_sets d = in_maybes (maybes d.ty.index) ++ in_maybe (maybe d.ty.set)

abbrev pub in_function : Function → List Span
in_function f = flat_map in_sets f.params ++ (in_maybes (maybes f.result.index) ++ (in_maybe (maybe f.result.set) ++ unbounded_in f.body))

abbrev pub in_goal : Goal → List Span
in_goal program.satisfy = []
in_goal (program.minimize e) = unbounded_in e
in_goal (program.maximize e) = unbounded_in e

abbrev pub all_unbounded : PlainProgram → List Span
all_unbounded p = flat_map in_decl p.decls ++ (flat_map in_function p.functions ++ (flat_map unbounded_in p.constraints ++ (in_goal p.goal ++ flat_map unbounded_in p.outputs)))

-- SOURCE ORDER: the files in their order, then the place in the file
abbrev pub stands_before : Span → Span → Bool
stands_before a b = nat_lt a.file b.file || (nat_eq a.file b.file && nat_lt a.byte b.byte)

abbrev pub first_from : Span → List Span → Span
first_from a [] = a
first_from a (b ∷ bs) = first_from (if stands_before b a then b else a) bs

abbrev pub first_of : List Span → Option Span
first_of [] = None
first_of (a ∷ bs) = Some (first_from a bs)

-- the name of the first one in source order
unfoldable pub first_unbounded : PlainProgram → Option Span
first_unbounded p = first_of (all_unbounded p)
