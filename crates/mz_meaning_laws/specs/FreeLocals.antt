-- FREE LOCALS: declarations of lets that have no value, by the places of their names.
use Rattle.std.specs.Prelude.{List, [], ◌∷◌, ◌++◌, Option, Some, None}
use Rattle.std.specs.List.{flat_map}
use Rattle.mz_base.specs.declared.fault.Span.{Span}
use Rattle.mz_core.specs.Program.{Function, Goal, PlainProgram}
use Rattle.mz_core.specs.Program as program
use Rattle.mz_core.specs.Tree.{Tree, Shape, Trees, Maybe, Maybes, Rows, Branches, Steps, Gens, Items, Decl}
use Rattle.mz_core.specs.Tree as tree

-- in an expression, also in the lets within it
unfoldable mutual
  pub free_in : Tree → List Span
  free_in (tree.node at t form) = free_in_form form

  pub free_in_form : Shape → List Span
  free_in_form (tree.chain e ss) = free_in e ++ free_in_steps ss
  free_in_form (tree.builtin n es) = free_in_trees es
  free_in_form (tree.call f es) = free_in_trees es
  free_in_form (tree.access e es) = free_in e ++ free_in_trees es
  free_in_form (tree.array es) = free_in_trees es
  free_in_form (tree.rows rs) = free_in_rows rs
  free_in_form (tree.set es) = free_in_trees es
  free_in_form (tree.comp b e gs) = free_in e ++ free_in_gens gs
  free_in_form (tree.choice bs e) = free_in_branches bs ++ free_in_maybe e
  free_in_form (tree.let_in is e) = free_in_items is ++ free_in e
  free_in_form (tree.coerce c e) = free_in e
  free_in_form _ = []

  pub free_in_maybe : Maybe → List Span
  free_in_maybe tree.nothing = []
  free_in_maybe (tree.just e) = free_in e

  pub free_in_trees : Trees → List Span
  free_in_trees tree.no_trees = []
  free_in_trees (tree.a_tree e es) = free_in e ++ free_in_trees es

  pub free_in_maybes : Maybes → List Span
  free_in_maybes tree.no_maybes = []
  free_in_maybes (tree.a_maybe m ms) = free_in_maybe m ++ free_in_maybes ms

  pub free_in_rows : Rows → List Span
  free_in_rows tree.no_rows = []
  free_in_rows (tree.a_row r rs) = free_in_trees r ++ free_in_rows rs

  pub free_in_branches : Branches → List Span
  free_in_branches tree.no_branches = []
  free_in_branches (tree.a_branch c e bs) = free_in c ++ (free_in e ++ free_in_branches bs)

  pub free_in_steps : Steps → List Span
  free_in_steps tree.no_steps = []
  free_in_steps (tree.a_step sp r t l m e ss) = free_in e ++ free_in_steps ss

  pub free_in_gens : Gens → List Span
  free_in_gens tree.no_gens = []
  free_in_gens (tree.a_gen ss e m gs) = free_in e ++ (free_in_maybe m ++ free_in_gens gs)

  -- a declaration's value, or the place of its name where it has none
  pub free_in_value : Span → Maybe → List Span
  free_in_value at tree.nothing = at ∷ []
  free_in_value at (tree.just e) = free_in e

  pub free_in_items : Items → List Span
  free_in_items tree.no_items = []
  free_in_items (tree.a_decl s n at q t ixs set value is) = free_in_maybes ixs ++ (free_in_maybe set ++ (free_in_value at value ++ free_in_items is))
  free_in_items (tree.a_constraint e is) = free_in e ++ free_in_items is

abbrev pub free_if : Option Tree → List Span
free_if None = []
free_if (Some e) = free_in e

-- a top-level declaration may lack a value, and so does a parameter
abbrev pub free_in_decl : Decl → List Span
free_in_decl d = flat_map free_if d.ty.index ++ (free_if d.ty.set ++ free_if d.value)

abbrev pub free_in_function : Function → List Span
free_in_function f = flat_map free_in_decl f.params ++ (flat_map free_if f.result.index ++ (free_if f.result.set ++ free_in f.body))

abbrev pub free_in_goal : Goal → List Span
free_in_goal program.satisfy = []
free_in_goal (program.minimize e) = free_in e
free_in_goal (program.maximize e) = free_in e

-- of all that a walk may evaluate
unfoldable pub free_locals : PlainProgram → List Span
free_locals p = flat_map free_in_function p.functions ++ (flat_map free_in_decl p.decls ++ (flat_map free_in p.constraints ++ free_in_goal p.goal))
