-- The names that stand for text literals in a typed program, in its order.
use Rattle.std.specs.Prelude.{ℕ, List, [], ◌∷◌, ◌++◌}
use Rattle.std.specs.List.{flat_map}
use Rattle.mz_core.specs.Nodes as nodes
use Rattle.mz_core.specs.Nodes.{nodes_in}
use Rattle.mz_core.specs.Program.{Function, Goal, PlainProgram}
use Rattle.mz_core.specs.Program as program
use Rattle.mz_core.specs.Tree.{Tree, Decl, DeclaredType}
use Rattle.mz_core.specs.Tree as tree
use Rattle.mz_scope_names.specs.Sets.{with_name}

-- the name of a node that is a text literal
abbrev pub text_at : Tree → List ℕ
text_at (tree.node at t (tree.text n)) = n ∷ []
text_at e = []

abbrev pub texts_among : List Tree → List ℕ
texts_among es = flat_map text_at es

abbrev pub texts_in : Tree → List ℕ
texts_in e = texts_among (nodes_in e)

abbrev pub in_decl : Decl → List ℕ
in_decl d = texts_among (nodes.in_decl d)

abbrev pub in_type : DeclaredType → List ℕ
in_type t = texts_among (nodes.in_type t)

abbrev pub in_function : Function → List ℕ
in_function f = flat_map in_decl f.params ++ (in_type f.result ++ texts_in f.body)

abbrev pub in_goal : Goal → List ℕ
in_goal program.satisfy = []
in_goal (program.minimize e) = texts_in e
in_goal (program.maximize e) = texts_in e

unfoldable pub all_texts : PlainProgram → List ℕ
all_texts p = flat_map in_decl p.decls ++ (flat_map in_function p.functions ++ (flat_map texts_in p.constraints ++ (in_goal p.goal ++ flat_map texts_in p.outputs)))

-- each name once, where it is first
unfoldable pub once : List ℕ → List ℕ → List ℕ
once all [] = all
once all (n ∷ ns) = once (with_name all n) ns

unfoldable pub text_names : PlainProgram → List ℕ
text_names p = once [] (all_texts p)
