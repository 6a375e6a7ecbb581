-- The occurrences of names in trees, in the order of the text.
use Rattle.std.specs.Prelude.{◌≡◌, List, [], ◌∷◌, ◌++◌, Bool, true, false, Option, Some, None, map, refl}
use Rattle.std.specs.List.{flat_map}
use Rattle.mz_base.specs.declared.fault.Span.{Span}
use Rattle.mz_tree.specs.Tree as pure
use Rattle.mz_tree.specs.Tree.{Name, Tree, Shape, Maybe, Trees, Links, Rows, Branches, Part, Parts, Generator, Gens, Let, Lets, Declaration, Written, Based, Dims, Bases}
use Rattle.mz_tree.specs.Items.{GoalTree, satisfy, minimize, maximize, ItemTree, include, declare, assign, constraint, solve, output, function, enum, annotation}
use Rattle.mz_scope_names.specs.declared.occurrence.Occurrence.{Occurrence}
use Rattle.mz_scope_names.specs.declared.occurrence.Role.TheVariants.{Declared, Overloaded, Valued, Used, Local, Lacking, Wanting, Caseless}
use Rattle.mz_scope_names.specs.Roles.{occurs}

-- a local name, bound at its place
abbrev pub bound : Name × Span → Occurrence
bound n = occurs Local n.0 n.1

-- whether a written type is par
abbrev pub is_par : Written → Bool
is_par (pure.written s ds true opt set b) = false
is_par (pure.written s ds false opt set b) = true

-- a par declaration of a `let` has a value
abbrev pub lack : Bool → Name → Span → Maybe → List Occurrence
lack true n s pure.nothing = occurs Lacking n s ∷ []
lack true n s (pure.just e) = []
lack false n s e = []

unfoldable mutual
  -- an expression's names: those that it uses, and those that are local in it
  pub in_tree : Tree → List Occurrence
  in_tree (pure.node s f) = in_shape s f

  pub in_shape : Span → Shape → List Occurrence
  in_shape s (pure.int z) = []
  in_shape s (pure.bool b) = []
  in_shape s pure.absent = []
  in_shape s (pure.text n) = []
  in_shape s (pure.ident n) = occurs Used n s ∷ []
  in_shape s (pure.interp ps) = in_parts ps
  in_shape s (pure.unary op e) = in_tree e
  in_shape s (pure.chain e ls) = in_tree e ++ in_links ls
  in_shape s (pure.call n es) = occurs Used n s ∷ in_trees es
  in_shape s (pure.gen_call n gs e) = occurs Used n s ∷ (in_gens gs ++ in_tree e)
  in_shape s (pure.access e es) = in_tree e ++ in_trees es
  in_shape s (pure.array es) = in_trees es
  in_shape s (pure.rows rs) = in_rows rs
  in_shape s (pure.set es) = in_trees es
  in_shape s (pure.array_comp e gs) = in_tree e ++ in_gens gs
  in_shape s (pure.set_comp e gs) = in_tree e ++ in_gens gs
  in_shape s (pure.choice bs e) = in_branches bs ++ in_maybe e
  in_shape s (pure.let_in ls e) = in_lets ls ++ in_tree e
  in_shape s pure.whole = []

  pub in_maybe : Maybe → List Occurrence
  in_maybe pure.nothing = []
  in_maybe (pure.just e) = in_tree e

  pub in_trees : Trees → List Occurrence
  in_trees pure.no_trees = []
  in_trees (pure.a_tree e es) = in_tree e ++ in_trees es

  pub in_links : Links → List Occurrence
  in_links pure.no_links = []
  in_links (pure.a_link op e ls) = in_tree e ++ in_links ls

  pub in_rows : Rows → List Occurrence
  in_rows pure.no_rows = []
  in_rows (pure.a_row r rs) = in_trees r ++ in_rows rs

  pub in_branches : Branches → List Occurrence
  in_branches pure.no_branches = []
  in_branches (pure.a_branch c e bs) = (in_tree c ++ in_tree e) ++ in_branches bs

  pub in_part : Part → List Occurrence
  in_part (pure.plain n) = []
  in_part (pure.shown e) = in_tree e

  pub in_parts : Parts → List Occurrence
  in_parts pure.no_parts = []
  in_parts (pure.a_part p ps) = in_part p ++ in_parts ps

  pub in_generator : Generator → List Occurrence
  in_generator (pure.generator ns e c) = map bound ns ++ (in_tree e ++ in_maybe c)

  pub in_gens : Gens → List Occurrence
  in_gens pure.no_gens = []
  in_gens (pure.a_gen g gs) = in_generator g ++ in_gens gs

  pub in_let : Let → List Occurrence
  in_let (pure.declared d) = in_local d
  in_let (pure.constrained e) = in_tree e

  pub in_lets : Lets → List Occurrence
  in_lets pure.no_lets = []
  in_lets (pure.a_let l ls) = in_let l ++ in_lets ls

  -- a declaration in a `let`
  pub in_local : Declaration → List Occurrence
  in_local (pure.declaration t n s e) = in_written t ++ (occurs Local n s ∷ (lack (is_par t) n s e ++ in_maybe e))

  pub in_written : Written → List Occurrence
  in_written (pure.written s ds var opt set b) = in_dims ds ++ in_based b

  pub in_based : Based → List Occurrence
  in_based pure.base_bool = []
  in_based pure.base_int = []
  in_based (pure.base_of e) = in_tree e

  pub in_dims : Dims → List Occurrence
  in_dims pure.no_array = []
  in_dims (pure.array_of bs) = in_bases bs

  pub in_bases : Bases → List Occurrence
  in_bases pure.no_bases = []
  in_bases (pure.a_base b bs) = in_based b ++ in_bases bs

-- a function's parameter
unfoldable pub in_parameter : Declaration → List Occurrence
in_parameter (pure.declaration t n s e) = in_written t ++ (occurs Local n s ∷ in_maybe e)

-- what a declaration at top level says of its value: it has one, or wants one, or needs none
abbrev pub value_of : Bool → Name → Span → Maybe → List Occurrence
value_of par n s (pure.just e) = occurs Valued n s ∷ []
value_of true n s pure.nothing = occurs Wanting n s ∷ []
value_of false n s pure.nothing = []

-- a declaration at top level
unfoldable pub in_top : Declaration → List Occurrence
in_top (pure.declaration t n s e) = in_written t ++ (occurs Declared n s ∷ (value_of (is_par t) n s e ++ in_maybe e))

abbrev pub in_goal : GoalTree → List Occurrence
in_goal satisfy = []
in_goal (minimize e) = in_tree e
in_goal (maximize e) = in_tree e

-- a case is declared, and has its value
abbrev pub of_case : Name × Span → List Occurrence
of_case c = occurs Declared c.0 c.1 ∷ occurs Valued c.0 c.1 ∷ []

-- the cases that an enum's item lists
abbrev pub of_cases : Name → Span → Option (List (Name × Span)) → List Occurrence
of_cases n s None = occurs Caseless n s ∷ []
of_cases n s (Some cs) = occurs Valued n s ∷ flat_map of_case cs

-- a function without parameters is declared and has its value; functions with parameters have a space of their own
abbrev pub of_function : Name → Span → List Declaration → List Occurrence
of_function n s [] = occurs Declared n s ∷ occurs Valued n s ∷ []
of_function n s (p ∷ ps) = occurs Overloaded n s ∷ []

abbrev pub in_item : ItemTree → List Occurrence
in_item (include n s) = []
in_item (declare d) = in_top d
in_item (assign n s e) = occurs Valued n s ∷ in_tree e
in_item (constraint e) = in_tree e
in_item (solve s g) = in_goal g
in_item (output e) = in_tree e
in_item (function f) = in_written f.result ++ (of_function f.name f.span f.params ++ (flat_map in_parameter f.params ++ in_tree f.body))
in_item (enum n s cs) = occurs Declared n s ∷ of_cases n s cs
in_item (annotation n) = []

-- `f(x)` uses two names
pub of_a_call : (s t : Span) → in_tree (pure.node s (pure.call 0 (pure.trees (pure.node t (pure.ident 1) ∷ [])))) ≡ occurs Used 0 s ∷ occurs Used 1 t ∷ []
unfolding in_tree
of_a_call s t = refl

-- `int: a` wants a value, and `int: a = b` has one
pub of_a_parameter : (r s t u : Span) → in_item (declare (pure.declaration (pure.written r pure.no_array false false false pure.base_int) 0 s pure.nothing)) ≡ occurs Declared 0 s ∷ occurs Wanting 0 s ∷ []
unfolding in_top in_tree
of_a_parameter r s t u = refl

pub of_a_value : (r s t : Span) → in_item (declare (pure.declaration (pure.written r pure.no_array false false false pure.base_int) 0 s (pure.just (pure.node t (pure.ident 1))))) ≡ occurs Declared 0 s ∷ occurs Valued 0 s ∷ occurs Used 1 t ∷ []
unfolding in_top in_tree
of_a_value r s t = refl

-- `enum E = {A}`
pub of_an_enum : (s t : Span) → in_item (enum 0 s (Some ((1, t) ∷ []))) ≡ occurs Declared 0 s ∷ occurs Valued 0 s ∷ occurs Declared 1 t ∷ occurs Valued 1 t ∷ []
of_an_enum s t = refl

-- in `[i | i in S]` the use of `i` comes first
pub of_a_comprehension : (r s t u : Span) → in_tree (pure.node r (pure.array_comp (pure.node s (pure.ident 0)) (pure.gens (pure.generator ((0, t) ∷ []) (pure.node u (pure.ident 1)) pure.nothing ∷ [])))) ≡ occurs Used 0 s ∷ occurs Local 0 t ∷ occurs Used 1 u ∷ []
unfolding in_tree
of_a_comprehension r s t u = refl

-- `let { int: q } in q`: a par declaration without a value
pub of_a_let : (q r s t : Span) → in_tree (pure.node q (pure.let_in (pure.lets (pure.declared (pure.declaration (pure.written r pure.no_array false false false pure.base_int) 0 s pure.nothing) ∷ [])) (pure.node t (pure.ident 0)))) ≡ occurs Local 0 s ∷ occurs Lacking 0 s ∷ occurs Used 0 t ∷ []
unfolding in_tree
of_a_let q r s t = refl
