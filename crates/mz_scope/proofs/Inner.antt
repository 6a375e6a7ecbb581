-- Within expressions and types no name is declared at top level or given a value.
use Rattle.std.proofs.Common.{◌≡◌, Bool, true, false, List, [], ◌∷◌, ◌++◌, map, refl, ap, ◌∙◌}
use Rattle.std.specs.Prelude.{if◌then◌else◌}
use Rattle.std.specs.List.{flat_map}
use Rattle.mz_base.specs.declared.fault.Span.{Span}
use Rattle.mz_tree.specs.Tree as pure
use Rattle.mz_tree.specs.Tree.{Name, Tree, Shape, Maybe, Trees, Links, Rows, Branches, Part, Parts, Generator, Gens, Let, Lets, Declaration, Written, Based, Dims, Bases}
use Rattle.mz_tree.specs.Items.{GoalTree, satisfy, minimize, maximize}
use Rattle.mz_scope_names.specs.declared.occurrence.Occurrence.{Occurrence}
use Rattle.mz_scope_names.specs.declared.occurrence.Role.{Role}
use Rattle.mz_scope_names.specs.declared.occurrence.Role.TheVariants.{Used, Local, Lacking}
use Rattle.mz_scope_names.specs.Roles.{occurs}
use Rattle.mz_scope_names.specs.Occurrences.{bound, is_par, lack, in_tree, in_shape, in_maybe, in_trees, in_links, in_rows, in_branches, in_part, in_parts, in_generator, in_gens, in_let, in_lets, in_local, in_written, in_based, in_dims, in_bases, in_parameter, in_goal}
use Rattle.mz_scope_names.proofs.Lists.{flat_of_both}
use Rattle.mz_scope.specs.Spaces.{name_in, names_with}

module _ (has : Role → Bool) (used : has Used ≡ false) (local : has Local ≡ false) (lacking : has Lacking ≡ false) where
  abbrev IsBare : List Occurrence → Type 0
  IsBare os = names_with has os ≡ []

  both : (xs ys : List Occurrence) → IsBare xs → IsBare ys → IsBare (xs ++ ys)
  both xs ys p q = flat_of_both (name_in has) xs ys ∙ ap (λ z. z ++ names_with has ys) p ∙ q

  then_one : (o : Occurrence) (os : List Occurrence) → has o.role ≡ false → IsBare os → IsBare (o ∷ os)
  then_one o os h t = ap (λ z. (if z then o.name ∷ [] else []) ++ names_with has os) h ∙ t

  bound_bare : (ns : List (Name × Span)) → IsBare (map bound ns)
  bound_bare [] = refl
  bound_bare (n ∷ ns) = then_one (bound n) (map bound ns) local (bound_bare ns)

  lack_bare : (par : Bool) (n : Name) (s : Span) (e : Maybe) → IsBare (lack par n s e)
  lack_bare true n s pure.nothing = then_one (occurs Lacking n s) [] lacking refl
  lack_bare true n s (pure.just e) = refl
  lack_bare false n s e = refl

  mutual
    unfolding in_tree

    tree_bare : (x : Tree) → IsBare (in_tree x)
    tree_bare (pure.node s f) = shape_bare s f

    shape_bare : (s : Span) (x : Shape) → IsBare (in_shape s x)
    shape_bare s (pure.int z) = refl
    shape_bare s (pure.bool b) = refl
    shape_bare s pure.absent = refl
    shape_bare s (pure.text n) = refl
    shape_bare s (pure.ident n) = then_one (occurs Used n s) [] used refl
    shape_bare s (pure.interp ps) = parts_bare ps
    shape_bare s (pure.unary op e) = tree_bare e
    shape_bare s (pure.chain e ls) = both (in_tree e) (in_links ls) (tree_bare e) (links_bare ls)
    shape_bare s (pure.call n es) = then_one (occurs Used n s) (in_trees es) used (trees_bare es)
    shape_bare s (pure.gen_call n gs e) = then_one (occurs Used n s) (in_gens gs ++ in_tree e) used (both (in_gens gs) (in_tree e) (gens_bare gs) (tree_bare e))
    shape_bare s (pure.access e es) = both (in_tree e) (in_trees es) (tree_bare e) (trees_bare es)
    shape_bare s (pure.array es) = trees_bare es
    shape_bare s (pure.rows rs) = rows_bare rs
    shape_bare s (pure.set es) = trees_bare es
    shape_bare s (pure.array_comp e gs) = both (in_tree e) (in_gens gs) (tree_bare e) (gens_bare gs)
    shape_bare s (pure.set_comp e gs) = both (in_tree e) (in_gens gs) (tree_bare e) (gens_bare gs)
    shape_bare s (pure.choice bs e) = both (in_branches bs) (in_maybe e) (branches_bare bs) (maybe_bare e)
    shape_bare s (pure.let_in ls e) = both (in_lets ls) (in_tree e) (lets_bare ls) (tree_bare e)
    shape_bare s pure.whole = refl

    pub maybe_bare : (x : Maybe) → IsBare (in_maybe x)
    maybe_bare pure.nothing = refl
    maybe_bare (pure.just e) = tree_bare e

    trees_bare : (x : Trees) → IsBare (in_trees x)
    trees_bare pure.no_trees = refl
    trees_bare (pure.a_tree e es) = both (in_tree e) (in_trees es) (tree_bare e) (trees_bare es)

    links_bare : (x : Links) → IsBare (in_links x)
    links_bare pure.no_links = refl
    links_bare (pure.a_link op e ls) = both (in_tree e) (in_links ls) (tree_bare e) (links_bare ls)

    rows_bare : (x : Rows) → IsBare (in_rows x)
    rows_bare pure.no_rows = refl
    rows_bare (pure.a_row r rs) = both (in_trees r) (in_rows rs) (trees_bare r) (rows_bare rs)

    branches_bare : (x : Branches) → IsBare (in_branches x)
    branches_bare pure.no_branches = refl
    branches_bare (pure.a_branch c e bs) = both (in_tree c ++ in_tree e) (in_branches bs) (both (in_tree c) (in_tree e) (tree_bare c) (tree_bare e)) (branches_bare bs)

    part_bare : (x : Part) → IsBare (in_part x)
    part_bare (pure.plain n) = refl
    part_bare (pure.shown e) = tree_bare e

    parts_bare : (x : Parts) → IsBare (in_parts x)
    parts_bare pure.no_parts = refl
    parts_bare (pure.a_part p ps) = both (in_part p) (in_parts ps) (part_bare p) (parts_bare ps)

    generator_bare : (x : Generator) → IsBare (in_generator x)
    generator_bare (pure.generator ns e c) = both (map bound ns) (in_tree e ++ in_maybe c) (bound_bare ns) (both (in_tree e) (in_maybe c) (tree_bare e) (maybe_bare c))

    gens_bare : (x : Gens) → IsBare (in_gens x)
    gens_bare pure.no_gens = refl
    gens_bare (pure.a_gen g gs) = both (in_generator g) (in_gens gs) (generator_bare g) (gens_bare gs)

    let_bare : (x : Let) → IsBare (in_let x)
    let_bare (pure.declared d) = local_bare d
    let_bare (pure.constrained e) = tree_bare e

    lets_bare : (x : Lets) → IsBare (in_lets x)
    lets_bare pure.no_lets = refl
    lets_bare (pure.a_let l ls) = both (in_let l) (in_lets ls) (let_bare l) (lets_bare ls)

    local_bare : (x : Declaration) → IsBare (in_local x)
    local_bare (pure.declaration t n s e) = both (in_written t) (occurs Local n s ∷ (lack (is_par t) n s e ++ in_maybe e)) (written_bare t) (then_one (occurs Local n s) (lack (is_par t) n s e ++ in_maybe e) local (both (lack (is_par t) n s e) (in_maybe e) (lack_bare (is_par t) n s e) (maybe_bare e)))

    pub written_bare : (x : Written) → IsBare (in_written x)
    written_bare (pure.written s ds var opt set b) = both (in_dims ds) (in_based b) (dims_bare ds) (based_bare b)

    based_bare : (x : Based) → IsBare (in_based x)
    based_bare pure.base_bool = refl
    based_bare pure.base_int = refl
    based_bare (pure.base_of e) = tree_bare e

    dims_bare : (x : Dims) → IsBare (in_dims x)
    dims_bare pure.no_array = refl
    dims_bare (pure.array_of bs) = bases_bare bs

    bases_bare : (x : Bases) → IsBare (in_bases x)
    bases_bare pure.no_bases = refl
    bases_bare (pure.a_base b bs) = both (in_based b) (in_bases bs) (based_bare b) (bases_bare bs)

  pub expression_bare : (x : Tree) → names_with has (in_tree x) ≡ []
  expression_bare x = tree_bare x

  parameter_bare : (x : Declaration) → IsBare (in_parameter x)
  unfolding in_parameter
  parameter_bare (pure.declaration t n s e) = both (in_written t) (occurs Local n s ∷ in_maybe e) (written_bare t) (then_one (occurs Local n s) (in_maybe e) local (maybe_bare e))

  pub parameters_bare : (ps : List Declaration) → names_with has (flat_map in_parameter ps) ≡ []
  parameters_bare [] = refl
  parameters_bare (p ∷ ps) = both (in_parameter p) (flat_map in_parameter ps) (parameter_bare p) (parameters_bare ps)

  pub goal_bare : (x : GoalTree) → names_with has (in_goal x) ≡ []
  goal_bare satisfy = refl
  goal_bare (minimize e) = tree_bare e
  goal_bare (maximize e) = tree_bare e

  pub bare_both : (xs ys : List Occurrence) → names_with has xs ≡ [] → names_with has ys ≡ [] → names_with has (xs ++ ys) ≡ []
  bare_both xs ys p q = both xs ys p q
