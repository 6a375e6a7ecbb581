-- ALL NODES of a typed program: each expression, and each that is a part of it.
use Rattle.std.specs.Prelude.{List, [], ◌∷◌, ◌++◌}
use Rattle.std.specs.List.{flat_map}
use Rattle.mz_core.specs.Program.{Function, Goal, PlainProgram}
use Rattle.mz_core.specs.Program as program
use Rattle.mz_core.specs.Tree.{Tree, Shape, Trees, Maybe, Maybes, Rows, Branches, Steps, Gens, Items, Decl, DeclaredType, declares, items, maybes, maybe}
use Rattle.mz_core.specs.Tree as tree

unfoldable mutual
  pub nodes_in : Tree → List Tree
  nodes_in (tree.node at t form) = tree.node at t form ∷ in_form form

  pub in_form : Shape → List Tree
  in_form (tree.chain e ss) = nodes_in e ++ in_steps ss
  in_form (tree.builtin n es) = in_trees es
  in_form (tree.call f es) = in_trees es
  in_form (tree.access e es) = nodes_in e ++ in_trees es
  in_form (tree.array es) = in_trees es
  in_form (tree.rows rs) = in_rows rs
  in_form (tree.set es) = in_trees es
  in_form (tree.comp b e gs) = nodes_in e ++ in_gens gs
  in_form (tree.choice bs e) = in_branches bs ++ in_maybe e
  in_form (tree.let_in is e) = in_items is ++ nodes_in e
  in_form (tree.coerce c e) = nodes_in e
  in_form _ = []

  pub in_maybe : Maybe → List Tree
  in_maybe tree.nothing = []
  in_maybe (tree.just e) = nodes_in e

  pub in_trees : Trees → List Tree
  in_trees tree.no_trees = []
  in_trees (tree.a_tree e es) = nodes_in e ++ in_trees es

  pub in_maybes : Maybes → List Tree
  in_maybes tree.no_maybes = []
  in_maybes (tree.a_maybe m ms) = in_maybe m ++ in_maybes ms

  pub in_rows : Rows → List Tree
  in_rows tree.no_rows = []
  in_rows (tree.a_row r rs) = in_trees r ++ in_rows rs

  pub in_branches : Branches → List Tree
  in_branches tree.no_branches = []
  in_branches (tree.a_branch c e bs) = nodes_in c ++ (nodes_in e ++ in_branches bs)

  pub in_steps : Steps → List Tree
  in_steps tree.no_steps = []
  in_steps (tree.a_step sp r t l m e ss) = nodes_in e ++ in_steps ss

  pub in_gens : Gens → List Tree
  in_gens tree.no_gens = []
  in_gens (tree.a_gen ss e m gs) = nodes_in e ++ (in_maybe m ++ in_gens gs)

  pub in_items : Items → List Tree
  in_items tree.no_items = []
  in_items (tree.a_decl s n at q t ixs set value is) = in_maybes ixs ++ (in_maybe set ++ (in_maybe value ++ in_items is))
  in_items (tree.a_constraint e is) = nodes_in e ++ in_items is

abbrev pub in_decl : Decl → List Tree
in_decl d = in_items (items (declares d ∷ []))

abbrev pub in_type : DeclaredType → List Tree
in_type t = in_maybes (maybes t.index) ++ in_maybe (maybe t.set)

abbrev pub in_function : Function → List Tree
in_function f = flat_map in_decl f.params ++ (in_type f.result ++ nodes_in f.body)

abbrev pub in_goal : Goal → List Tree
in_goal program.satisfy = []
in_goal (program.minimize e) = nodes_in e
in_goal (program.maximize e) = nodes_in e

unfoldable pub nodes_of : PlainProgram → List Tree
nodes_of p = flat_map in_decl p.decls ++ (flat_map in_function p.functions ++ (flat_map nodes_in p.constraints ++ (in_goal p.goal ++ flat_map nodes_in p.outputs)))
