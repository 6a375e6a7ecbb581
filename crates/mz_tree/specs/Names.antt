-- The names and the places in trees, each put into a list in the order of the tree.
use Rattle.std.specs.Prelude.{List, [], ◌∷◌, ◌++◌, Option, Some, None, refl, ◌≡◌}
use Rattle.std.specs.List.{flat_map}
use Rattle.mz_base.specs.declared.fault.Span.{Span}
use Rattle.mz_tree.specs.Tree as pure
use Rattle.mz_tree.specs.Tree.{Name, Tree, Shape, Maybe, Trees, Links, Rows, Branches, Part, Parts, Generator, Gens, Let, Lets, Declaration, Written, Based, Dims, Bases}
use Rattle.mz_tree.specs.Items.{GoalTree, satisfy, minimize, maximize, ItemTree, include, declare, assign, constraint, solve, output, function, enum, annotation}

-- what a name and a place give, for all names and places in a tree
module _ {A : Type 0} (named : Name → List A) (placed : Span → List A) where
  abbrev pub spot : Name × Span → List A
  spot n = named n.0 ++ placed n.1

  unfoldable mutual
    pub in_tree : Tree → List A
    in_tree (pure.node s f) = placed s ++ in_shape f

    pub in_shape : Shape → List A
    in_shape (pure.int z) = []
    in_shape (pure.bool b) = []
    in_shape pure.absent = []
    in_shape (pure.text n) = named n
    in_shape (pure.ident n) = named n
    in_shape (pure.interp ps) = in_parts ps
    in_shape (pure.unary op e) = in_tree e
    in_shape (pure.chain e ls) = in_tree e ++ in_links ls
    in_shape (pure.call n es) = named n ++ in_trees es
    in_shape (pure.gen_call n gs e) = named n ++ in_gens gs ++ in_tree e
    in_shape (pure.access e es) = in_tree e ++ in_trees es
    in_shape (pure.array es) = in_trees es
    in_shape (pure.rows rs) = in_rows rs
    in_shape (pure.set es) = in_trees es
    in_shape (pure.array_comp e gs) = in_tree e ++ in_gens gs
    in_shape (pure.set_comp e gs) = in_tree e ++ in_gens gs
    in_shape (pure.choice bs e) = in_branches bs ++ in_maybe e
    in_shape (pure.let_in ls e) = in_lets ls ++ in_tree e
    in_shape pure.whole = []

    pub in_maybe : Maybe → List A
    in_maybe pure.nothing = []
    in_maybe (pure.just e) = in_tree e

    pub in_trees : Trees → List A
    in_trees pure.no_trees = []
    in_trees (pure.a_tree e es) = in_tree e ++ in_trees es

    pub in_links : Links → List A
    in_links pure.no_links = []
    in_links (pure.a_link o e ls) = placed o.start ++ in_tree e ++ in_links ls

    pub in_rows : Rows → List A
    in_rows pure.no_rows = []
    in_rows (pure.a_row r rs) = in_trees r ++ in_rows rs

    pub in_branches : Branches → List A
    in_branches pure.no_branches = []
    in_branches (pure.a_branch c e bs) = in_tree c ++ in_tree e ++ in_branches bs

    pub in_part : Part → List A
    in_part (pure.plain n) = named n
    in_part (pure.shown e) = in_tree e

    pub in_parts : Parts → List A
    in_parts pure.no_parts = []
    in_parts (pure.a_part p ps) = in_part p ++ in_parts ps

    pub in_generator : Generator → List A
    in_generator (pure.generator ns e c) = flat_map spot ns ++ in_tree e ++ in_maybe c

    pub in_gens : Gens → List A
    in_gens pure.no_gens = []
    in_gens (pure.a_gen g gs) = in_generator g ++ in_gens gs

    pub in_let : Let → List A
    in_let (pure.declared d) = in_declaration d
    in_let (pure.constrained e) = in_tree e

    pub in_lets : Lets → List A
    in_lets pure.no_lets = []
    in_lets (pure.a_let l ls) = in_let l ++ in_lets ls

    pub in_declaration : Declaration → List A
    in_declaration (pure.declaration t n s e) = in_written t ++ named n ++ placed s ++ in_maybe e

    pub in_written : Written → List A
    in_written (pure.written s ds var opt set b) = placed s ++ in_dims ds ++ in_based b

    pub in_based : Based → List A
    in_based pure.base_bool = []
    in_based pure.base_int = []
    in_based (pure.base_of e) = in_tree e

    pub in_dims : Dims → List A
    in_dims pure.no_array = []
    in_dims (pure.array_of bs) = in_bases bs

    pub in_bases : Bases → List A
    in_bases pure.no_bases = []
    in_bases (pure.a_base b bs) = in_based b ++ in_bases bs

  abbrev pub in_goal : GoalTree → List A
  in_goal satisfy = []
  in_goal (minimize e) = in_tree e
  in_goal (maximize e) = in_tree e

  abbrev pub in_cases : Option (List (Name × Span)) → List A
  in_cases None = []
  in_cases (Some ns) = flat_map spot ns

  abbrev pub in_item : ItemTree → List A
  in_item (include n s) = named n ++ placed s
  in_item (declare d) = in_declaration d
  in_item (assign n s e) = named n ++ placed s ++ in_tree e
  in_item (constraint e) = in_tree e
  in_item (solve s g) = placed s ++ in_goal g
  in_item (output e) = in_tree e
  in_item (function f) = named f.name ++ placed f.span ++ in_written f.result ++ flat_map in_declaration f.params ++ in_tree f.body
  in_item (enum n s cs) = named n ++ placed s ++ in_cases cs
  in_item (annotation n) = named n

abbrev pub of_name : Name → List Name
of_name n = n ∷ []

abbrev pub of_place : Span → List Span
of_place s = s ∷ []

-- the names in an expression, and in an item
abbrev pub names_in : Tree → List Name
names_in = in_tree of_name (λ s. [])

abbrev pub item_names : ItemTree → List Name
item_names = in_item of_name (λ s. [])

-- the places in an expression, and in an item
abbrev pub places_in : Tree → List Span
places_in = in_tree (λ n. []) of_place

abbrev pub item_places : ItemTree → List Span
item_places = in_item (λ n. []) of_place

-- the names and the places of `f(x)`
pub names_of_a_call : (s t : Span) → names_in (pure.node s (pure.call 0 (pure.trees (pure.node t (pure.ident 1) ∷ [])))) ≡ 0 ∷ 1 ∷ []
unfolding in_tree
names_of_a_call s t = refl

pub places_of_a_call : (s t : Span) → places_in (pure.node s (pure.call 0 (pure.trees (pure.node t (pure.ident 1) ∷ [])))) ≡ s ∷ t ∷ []
unfolding in_tree
places_of_a_call s t = refl
