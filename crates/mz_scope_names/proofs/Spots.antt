-- The names and places of occurrences are of the kinds of all names and places in their trees.
use Rattle.std.proofs.Common.{Bool, true, false, List, [], ◌∷◌, ◌++◌, map, Option, Some, None}
use Rattle.std.specs.Prelude.{All}
use Rattle.std.specs.List.{flat_map}
use Rattle.std.proofs.lemmas.List.Elements.{All-nil, All-cons, All-head, All-tail, All-append, All-weaker}
use Rattle.mz_base.specs.declared.fault.Span.{Span}
use Rattle.mz_tree.specs.Tree as pure
use Rattle.mz_tree.specs.Tree.{Name, Tree, Shape, Maybe, Trees, Links, Rows, Branches, Part, Parts, Generator, Gens, Let, Lets, Declaration, Written, Based, Dims, Bases}
use Rattle.mz_tree.specs.Items.{GoalTree, satisfy, minimize, maximize, ItemTree, include, declare, assign, constraint, solve, output, function, enum, annotation}
use Rattle.mz_tree.specs.Kinds.{IsSpot, OfTree, OfShape, OfMaybe, OfTrees, OfLinks, OfRows, OfBranches, OfPart, OfParts, OfGenerator, OfGens, OfLet, OfLets, OfDeclaration, OfWritten, OfBased, OfDims, OfBases, OfGoal, OfCases, OfItem}
use Rattle.mz_scope_names.specs.declared.occurrence.Occurrence.{Occurrence}
use Rattle.mz_scope_names.specs.declared.occurrence.Role.{Role}
use Rattle.mz_scope_names.specs.declared.occurrence.Role.TheVariants.{Declared, Overloaded, Valued, Used, Local, Lacking, Wanting, Caseless}
use Rattle.mz_scope_names.specs.Roles.{occurs}
use Rattle.mz_scope_names.specs.Occurrences.{bound, is_par, lack, in_tree, in_shape, in_maybe, in_trees, in_links, in_rows, in_branches, in_part, in_parts, in_generator, in_gens, in_let, in_lets, in_local, in_written, in_based, in_dims, in_bases, in_parameter, value_of, in_top, in_goal, of_case, of_cases, of_function, in_item}

module _ (N : Name → Type 0) (P : Span → Type 0) where
  abbrev Spotted : Occurrence → Type 0
  Spotted o = IsSpot N P (o.name, o.span)

  one : (r : Role) (n : Name) (s : Span) → IsSpot N P (n, s) → All Spotted (occurs r n s ∷ [])
  one r n s h = All-cons Spotted (occurs r n s) [] h (All-nil Spotted)

  then_one : (r : Role) (n : Name) (s : Span) (os : List Occurrence) → IsSpot N P (n, s) → All Spotted os → All Spotted (occurs r n s ∷ os)
  then_one r n s os h t = All-cons Spotted (occurs r n s) os h t

  both : (xs ys : List Occurrence) → All Spotted xs → All Spotted ys → All Spotted (xs ++ ys)
  both xs ys p q = All-append Spotted xs ys p q

  flat_spotted : {B : Type 0} (K : B → Type 0) (f : B → List Occurrence) → ((b : B) → K b → All Spotted (f b)) → (bs : List B) → All K bs → All Spotted (flat_map f bs)
  flat_spotted K f each [] h = All-nil Spotted
  flat_spotted K f each (b ∷ bs) h = both (f b) (flat_map f bs) (each b (All-head K b bs h)) (flat_spotted K f each bs (All-tail K b bs h))

  bound_spotted : (ns : List (Name × Span)) → All (IsSpot N P) ns → All Spotted (map bound ns)
  bound_spotted [] h = All-nil Spotted
  bound_spotted (n ∷ ns) h = All-cons Spotted (bound n) (map bound ns) (All-head (IsSpot N P) n ns h) (bound_spotted ns (All-tail (IsSpot N P) n ns h))

  lack_spotted : (par : Bool) (n : Name) (s : Span) (e : Maybe) → IsSpot N P (n, s) → All Spotted (lack par n s e)
  lack_spotted true n s pure.nothing h = one Lacking n s h
  lack_spotted true n s (pure.just e) h = All-nil Spotted
  lack_spotted false n s e h = All-nil Spotted

  mutual
    unfolding in_tree OfTree

    tree_spotted : (x : Tree) → OfTree N P x → All Spotted (in_tree x)
    tree_spotted (pure.node s f) h = shape_spotted s f h.0 h.1

    shape_spotted : (s : Span) (x : Shape) → P s → OfShape N P x → All Spotted (in_shape s x)
    shape_spotted s (pure.int z) at h = All-nil Spotted
    shape_spotted s (pure.bool b) at h = All-nil Spotted
    shape_spotted s pure.absent at h = All-nil Spotted
    shape_spotted s (pure.text n) at h = All-nil Spotted
    shape_spotted s (pure.ident n) at h = one Used n s (h, at)
    shape_spotted s (pure.interp ps) at h = parts_spotted ps h
    shape_spotted s (pure.unary op e) at h = tree_spotted e h
    shape_spotted s (pure.chain e ls) at h = both (in_tree e) (in_links ls) (tree_spotted e h.0) (links_spotted ls h.1)
    shape_spotted s (pure.call n es) at h = then_one Used n s (in_trees es) (h.0, at) (trees_spotted es h.1)
    shape_spotted s (pure.gen_call n gs e) at h = then_one Used n s (in_gens gs ++ in_tree e) (h.0, at) (both (in_gens gs) (in_tree e) (gens_spotted gs h.1) (tree_spotted e h.2))
    shape_spotted s (pure.access e es) at h = both (in_tree e) (in_trees es) (tree_spotted e h.0) (trees_spotted es h.1)
    shape_spotted s (pure.array es) at h = trees_spotted es h
    shape_spotted s (pure.rows rs) at h = rows_spotted rs h
    shape_spotted s (pure.set es) at h = trees_spotted es h
    shape_spotted s (pure.array_comp e gs) at h = both (in_tree e) (in_gens gs) (tree_spotted e h.0) (gens_spotted gs h.1)
    shape_spotted s (pure.set_comp e gs) at h = both (in_tree e) (in_gens gs) (tree_spotted e h.0) (gens_spotted gs h.1)
    shape_spotted s (pure.choice bs e) at h = both (in_branches bs) (in_maybe e) (branches_spotted bs h.0) (maybe_spotted e h.1)
    shape_spotted s (pure.let_in ls e) at h = both (in_lets ls) (in_tree e) (lets_spotted ls h.0) (tree_spotted e h.1)
    shape_spotted s pure.whole at h = All-nil Spotted

    maybe_spotted : (x : Maybe) → OfMaybe N P x → All Spotted (in_maybe x)
    maybe_spotted pure.nothing h = All-nil Spotted
    maybe_spotted (pure.just e) h = tree_spotted e h

    trees_spotted : (x : Trees) → OfTrees N P x → All Spotted (in_trees x)
    trees_spotted pure.no_trees h = All-nil Spotted
    trees_spotted (pure.a_tree e es) h = both (in_tree e) (in_trees es) (tree_spotted e h.0) (trees_spotted es h.1)

    links_spotted : (x : Links) → OfLinks N P x → All Spotted (in_links x)
    links_spotted pure.no_links h = All-nil Spotted
    links_spotted (pure.a_link op e ls) h = both (in_tree e) (in_links ls) (tree_spotted e h.1) (links_spotted ls h.2)

    rows_spotted : (x : Rows) → OfRows N P x → All Spotted (in_rows x)
    rows_spotted pure.no_rows h = All-nil Spotted
    rows_spotted (pure.a_row r rs) h = both (in_trees r) (in_rows rs) (trees_spotted r h.0) (rows_spotted rs h.1)

    branches_spotted : (x : Branches) → OfBranches N P x → All Spotted (in_branches x)
    branches_spotted pure.no_branches h = All-nil Spotted
    branches_spotted (pure.a_branch c e bs) h = both (in_tree c ++ in_tree e) (in_branches bs) (both (in_tree c) (in_tree e) (tree_spotted c h.0) (tree_spotted e h.1)) (branches_spotted bs h.2)

    part_spotted : (x : Part) → OfPart N P x → All Spotted (in_part x)
    part_spotted (pure.plain n) h = All-nil Spotted
    part_spotted (pure.shown e) h = tree_spotted e h

    parts_spotted : (x : Parts) → OfParts N P x → All Spotted (in_parts x)
    parts_spotted pure.no_parts h = All-nil Spotted
    parts_spotted (pure.a_part p ps) h = both (in_part p) (in_parts ps) (part_spotted p h.0) (parts_spotted ps h.1)

    generator_spotted : (x : Generator) → OfGenerator N P x → All Spotted (in_generator x)
    generator_spotted (pure.generator ns e c) h = both (map bound ns) (in_tree e ++ in_maybe c) (bound_spotted ns h.0) (both (in_tree e) (in_maybe c) (tree_spotted e h.1) (maybe_spotted c h.2))

    gens_spotted : (x : Gens) → OfGens N P x → All Spotted (in_gens x)
    gens_spotted pure.no_gens h = All-nil Spotted
    gens_spotted (pure.a_gen g gs) h = both (in_generator g) (in_gens gs) (generator_spotted g h.0) (gens_spotted gs h.1)

    let_spotted : (x : Let) → OfLet N P x → All Spotted (in_let x)
    let_spotted (pure.declared d) h = local_spotted d h
    let_spotted (pure.constrained e) h = tree_spotted e h

    lets_spotted : (x : Lets) → OfLets N P x → All Spotted (in_lets x)
    lets_spotted pure.no_lets h = All-nil Spotted
    lets_spotted (pure.a_let l ls) h = both (in_let l) (in_lets ls) (let_spotted l h.0) (lets_spotted ls h.1)

    local_spotted : (x : Declaration) → OfDeclaration N P x → All Spotted (in_local x)
    local_spotted (pure.declaration t n s e) h = both (in_written t) (occurs Local n s ∷ (lack (is_par t) n s e ++ in_maybe e)) (written_spotted t h.0) (then_one Local n s (lack (is_par t) n s e ++ in_maybe e) (h.1, h.2) (both (lack (is_par t) n s e) (in_maybe e) (lack_spotted (is_par t) n s e (h.1, h.2)) (maybe_spotted e h.3)))

    written_spotted : (x : Written) → OfWritten N P x → All Spotted (in_written x)
    written_spotted (pure.written s ds var opt set b) h = both (in_dims ds) (in_based b) (dims_spotted ds h.1) (based_spotted b h.2)

    based_spotted : (x : Based) → OfBased N P x → All Spotted (in_based x)
    based_spotted pure.base_bool h = All-nil Spotted
    based_spotted pure.base_int h = All-nil Spotted
    based_spotted (pure.base_of e) h = tree_spotted e h

    dims_spotted : (x : Dims) → OfDims N P x → All Spotted (in_dims x)
    dims_spotted pure.no_array h = All-nil Spotted
    dims_spotted (pure.array_of bs) h = bases_spotted bs h

    bases_spotted : (x : Bases) → OfBases N P x → All Spotted (in_bases x)
    bases_spotted pure.no_bases h = All-nil Spotted
    bases_spotted (pure.a_base b bs) h = both (in_based b) (in_bases bs) (based_spotted b h.0) (bases_spotted bs h.1)

  parameter_spotted : (x : Declaration) → OfDeclaration N P x → All Spotted (in_parameter x)
  unfolding in_parameter OfTree
  parameter_spotted (pure.declaration t n s e) h = both (in_written t) (occurs Local n s ∷ in_maybe e) (written_spotted t h.0) (then_one Local n s (in_maybe e) (h.1, h.2) (maybe_spotted e h.3))

  value_spotted : (par : Bool) (n : Name) (s : Span) (e : Maybe) → IsSpot N P (n, s) → All Spotted (value_of par n s e)
  value_spotted true n s (pure.just e) h = one Valued n s h
  value_spotted false n s (pure.just e) h = one Valued n s h
  value_spotted true n s pure.nothing h = one Wanting n s h
  value_spotted false n s pure.nothing h = All-nil Spotted

  top_spotted : (x : Declaration) → OfDeclaration N P x → All Spotted (in_top x)
  unfolding in_top OfTree
  top_spotted (pure.declaration t n s e) h = both (in_written t) (occurs Declared n s ∷ (value_of (is_par t) n s e ++ in_maybe e)) (written_spotted t h.0) (then_one Declared n s (value_of (is_par t) n s e ++ in_maybe e) (h.1, h.2) (both (value_of (is_par t) n s e) (in_maybe e) (value_spotted (is_par t) n s e (h.1, h.2)) (maybe_spotted e h.3)))

  goal_spotted : (x : GoalTree) → OfGoal N P x → All Spotted (in_goal x)
  goal_spotted satisfy h = All-nil Spotted
  goal_spotted (minimize e) h = tree_spotted e h
  goal_spotted (maximize e) h = tree_spotted e h

  case_spotted : (c : Name × Span) → IsSpot N P c → All Spotted (of_case c)
  case_spotted c h = then_one Declared c.0 c.1 (occurs Valued c.0 c.1 ∷ []) h (one Valued c.0 c.1 h)

  cases_spotted : (n : Name) (s : Span) (cs : Option (List (Name × Span))) → IsSpot N P (n, s) → OfCases N P cs → All Spotted (of_cases n s cs)
  cases_spotted n s None h k = one Caseless n s h
  cases_spotted n s (Some cs) h k = then_one Valued n s (flat_map of_case cs) h (flat_spotted (IsSpot N P) of_case case_spotted cs k)

  function_spotted : (n : Name) (s : Span) (ps : List Declaration) → IsSpot N P (n, s) → All Spotted (of_function n s ps)
  function_spotted n s [] h = then_one Declared n s (occurs Valued n s ∷ []) h (one Valued n s h)
  function_spotted n s (p ∷ ps) h = one Overloaded n s h

  item_spotted : (x : ItemTree) → OfItem N P x → All Spotted (in_item x)
  item_spotted (include n s) h = All-nil Spotted
  item_spotted (declare d) h = top_spotted d h
  item_spotted (assign n s e) h = then_one Valued n s (in_tree e) (h.0, h.1) (tree_spotted e h.2)
  item_spotted (constraint e) h = tree_spotted e h
  item_spotted (solve s g) h = goal_spotted g h.1
  item_spotted (output e) h = tree_spotted e h
  item_spotted (function f) h = both (in_written f.result) (of_function f.name f.span f.params ++ (flat_map in_parameter f.params ++ in_tree f.body)) (written_spotted f.result h.2) (both (of_function f.name f.span f.params) (flat_map in_parameter f.params ++ in_tree f.body) (function_spotted f.name f.span f.params (h.0, h.1)) (both (flat_map in_parameter f.params) (in_tree f.body) (flat_spotted (OfDeclaration N P) in_parameter parameter_spotted f.params h.3) (tree_spotted f.body h.4)))
  item_spotted (enum n s cs) h = then_one Declared n s (of_cases n s cs) (h.0, h.1) (cases_spotted n s cs (h.0, h.1) h.2)
  item_spotted (annotation n) h = All-nil Spotted

  pub item_named : (x : ItemTree) → OfItem N P x → All (λ o. N o.name) (in_item x)
  item_named x h = All-weaker Spotted (λ o. N o.name) (λ o k. k.0) (in_item x) (item_spotted x h)

  pub item_placed : (x : ItemTree) → OfItem N P x → All (λ o. P o.span) (in_item x)
  item_placed x h = All-weaker Spotted (λ o. P o.span) (λ o k. k.1) (in_item x) (item_spotted x h)
