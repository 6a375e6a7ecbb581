-- A kind that all names and places in a tree have, and the lists of its names and places.
use Rattle.std.proofs.Common.{List, [], ◌∷◌, ◌++◌}
use Rattle.std.specs.Prelude.{Option, Some, None, All}
use Rattle.std.specs.List.{flat_map}
use Rattle.std.proofs.lemmas.List.Elements.{All-nil, All-cons, All-head, All-tail, All-append}
use Rattle.mz_base.specs.declared.fault.Span.{Span}
use Rattle.mz_tree.specs.Tree as pure
use Rattle.mz_tree.specs.Tree.{Name, Tree, Shape, Maybe, Trees, Links, Rows, Branches, Part, Parts, Generator, Gens, Let, Lets, Declaration, Written, Based, Dims, Bases}
use Rattle.mz_tree.specs.Items.{GoalTree, satisfy, minimize, maximize, ItemTree, include, declare, assign, constraint, solve, output, function, enum, annotation}
use Rattle.mz_tree.specs.Kinds.{IsSpot, OfTree, OfShape, OfMaybe, OfTrees, OfLinks, OfRows, OfBranches, OfPart, OfParts, OfGenerator, OfGens, OfLet, OfLets, OfDeclaration, OfWritten, OfBased, OfDims, OfBases, OfGoal, OfCases, OfItem}
use Rattle.mz_tree.specs.Names.{spot, in_tree, in_shape, in_maybe, in_trees, in_links, in_rows, in_branches, in_part, in_parts, in_generator, in_gens, in_let, in_lets, in_declaration, in_written, in_based, in_dims, in_bases, in_goal, in_cases, in_item}

module _ {A : Type 0} (Q : A → Type 0) where
  pub all_parts : (xs ys : List A) → All Q (xs ++ ys) → All Q xs × All Q ys
  all_parts [] ys h = (All-nil Q, h)
  all_parts (x ∷ xs) ys h = let rest = all_parts xs ys (All-tail Q x (xs ++ ys) h) in (All-cons Q x xs (All-head Q x (xs ++ ys) h) rest.0, rest.1)

module _ {A B : Type 0} (Q : A → Type 0) (P : B → Type 0) (f : B → List A) where
  pub all_flat : ((b : B) → P b → All Q (f b)) → (bs : List B) → All P bs → All Q (flat_map f bs)
  all_flat each [] h = All-nil Q
  all_flat each (b ∷ bs) h = All-append Q (f b) (flat_map f bs) (each b (All-head P b bs h)) (all_flat each bs (All-tail P b bs h))

-- what all names and places of a kind give
module _ {A : Type 0} (named : Name → List A) (placed : Span → List A) (Q : A → Type 0) (N : Name → Type 0) (P : Span → Type 0) (name : (n : Name) → N n → All Q (named n)) (place : (s : Span) → P s → All Q (placed s)) where
  spot_given : (n : Name × Span) → IsSpot N P n → All Q (spot named placed n)
  spot_given n h = All-append Q (named n.0) (placed n.1) (name n.0 h.0) (place n.1 h.1)

  mutual
    unfolding in_tree OfTree

    pub tree_given : (x : Tree) → OfTree N P x → All Q (in_tree named placed x)
    tree_given (pure.node s f) h = All-append Q (placed s) (in_shape named placed f) (place s h.0) (shape_given f h.1)

    pub shape_given : (x : Shape) → OfShape N P x → All Q (in_shape named placed x)
    shape_given (pure.int z) h = All-nil Q
    shape_given (pure.bool b) h = All-nil Q
    shape_given pure.absent h = All-nil Q
    shape_given (pure.text n) h = name n h
    shape_given (pure.ident n) h = name n h
    shape_given (pure.interp ps) h = parts_given ps h
    shape_given (pure.unary op e) h = tree_given e h
    shape_given (pure.chain e ls) h = All-append Q (in_tree named placed e) (in_links named placed ls) (tree_given e h.0) (links_given ls h.1)
    shape_given (pure.call n es) h = All-append Q (named n) (in_trees named placed es) (name n h.0) (trees_given es h.1)
    shape_given (pure.gen_call n gs e) h = All-append Q ((named n) ++ (in_gens named placed gs)) (in_tree named placed e) (All-append Q (named n) (in_gens named placed gs) (name n h.0) (gens_given gs h.1)) (tree_given e h.2)
    shape_given (pure.access e es) h = All-append Q (in_tree named placed e) (in_trees named placed es) (tree_given e h.0) (trees_given es h.1)
    shape_given (pure.array es) h = trees_given es h
    shape_given (pure.rows rs) h = rows_given rs h
    shape_given (pure.set es) h = trees_given es h
    shape_given (pure.array_comp e gs) h = All-append Q (in_tree named placed e) (in_gens named placed gs) (tree_given e h.0) (gens_given gs h.1)
    shape_given (pure.set_comp e gs) h = All-append Q (in_tree named placed e) (in_gens named placed gs) (tree_given e h.0) (gens_given gs h.1)
    shape_given (pure.choice bs e) h = All-append Q (in_branches named placed bs) (in_maybe named placed e) (branches_given bs h.0) (maybe_given e h.1)
    shape_given (pure.let_in ls e) h = All-append Q (in_lets named placed ls) (in_tree named placed e) (lets_given ls h.0) (tree_given e h.1)
    shape_given pure.whole h = All-nil Q

    pub maybe_given : (x : Maybe) → OfMaybe N P x → All Q (in_maybe named placed x)
    maybe_given pure.nothing h = All-nil Q
    maybe_given (pure.just e) h = tree_given e h

    pub trees_given : (x : Trees) → OfTrees N P x → All Q (in_trees named placed x)
    trees_given pure.no_trees h = All-nil Q
    trees_given (pure.a_tree e es) h = All-append Q (in_tree named placed e) (in_trees named placed es) (tree_given e h.0) (trees_given es h.1)

    pub links_given : (x : Links) → OfLinks N P x → All Q (in_links named placed x)
    links_given pure.no_links h = All-nil Q
    links_given (pure.a_link o e ls) h = All-append Q ((placed o.start) ++ (in_tree named placed e)) (in_links named placed ls) (All-append Q (placed o.start) (in_tree named placed e) (place o.start h.0) (tree_given e h.1)) (links_given ls h.2)

    pub rows_given : (x : Rows) → OfRows N P x → All Q (in_rows named placed x)
    rows_given pure.no_rows h = All-nil Q
    rows_given (pure.a_row r rs) h = All-append Q (in_trees named placed r) (in_rows named placed rs) (trees_given r h.0) (rows_given rs h.1)

    pub branches_given : (x : Branches) → OfBranches N P x → All Q (in_branches named placed x)
    branches_given pure.no_branches h = All-nil Q
    branches_given (pure.a_branch c e bs) h = All-append Q ((in_tree named placed c) ++ (in_tree named placed e)) (in_branches named placed bs) (All-append Q (in_tree named placed c) (in_tree named placed e) (tree_given c h.0) (tree_given e h.1)) (branches_given bs h.2)

    pub part_given : (x : Part) → OfPart N P x → All Q (in_part named placed x)
    part_given (pure.plain n) h = name n h
    part_given (pure.shown e) h = tree_given e h

    pub parts_given : (x : Parts) → OfParts N P x → All Q (in_parts named placed x)
    parts_given pure.no_parts h = All-nil Q
    parts_given (pure.a_part p ps) h = All-append Q (in_part named placed p) (in_parts named placed ps) (part_given p h.0) (parts_given ps h.1)

    pub generator_given : (x : Generator) → OfGenerator N P x → All Q (in_generator named placed x)
    generator_given (pure.generator ns e c) h = All-append Q ((flat_map (spot named placed) ns) ++ (in_tree named placed e)) (in_maybe named placed c) (All-append Q (flat_map (spot named placed) ns) (in_tree named placed e) (all_flat Q (IsSpot N P) (spot named placed) spot_given ns h.0) (tree_given e h.1)) (maybe_given c h.2)

    pub gens_given : (x : Gens) → OfGens N P x → All Q (in_gens named placed x)
    gens_given pure.no_gens h = All-nil Q
    gens_given (pure.a_gen g gs) h = All-append Q (in_generator named placed g) (in_gens named placed gs) (generator_given g h.0) (gens_given gs h.1)

    pub let_given : (x : Let) → OfLet N P x → All Q (in_let named placed x)
    let_given (pure.declared d) h = declaration_given d h
    let_given (pure.constrained e) h = tree_given e h

    pub lets_given : (x : Lets) → OfLets N P x → All Q (in_lets named placed x)
    lets_given pure.no_lets h = All-nil Q
    lets_given (pure.a_let l ls) h = All-append Q (in_let named placed l) (in_lets named placed ls) (let_given l h.0) (lets_given ls h.1)

    pub declaration_given : (x : Declaration) → OfDeclaration N P x → All Q (in_declaration named placed x)
    declaration_given (pure.declaration t n s e) h = All-append Q (((in_written named placed t) ++ (named n)) ++ (placed s)) (in_maybe named placed e) (All-append Q ((in_written named placed t) ++ (named n)) (placed s) (All-append Q (in_written named placed t) (named n) (written_given t h.0) (name n h.1)) (place s h.2)) (maybe_given e h.3)

    pub written_given : (x : Written) → OfWritten N P x → All Q (in_written named placed x)
    written_given (pure.written s ds var opt set b) h = All-append Q ((placed s) ++ (in_dims named placed ds)) (in_based named placed b) (All-append Q (placed s) (in_dims named placed ds) (place s h.0) (dims_given ds h.1)) (based_given b h.2)

    pub based_given : (x : Based) → OfBased N P x → All Q (in_based named placed x)
    based_given pure.base_bool h = All-nil Q
    based_given pure.base_int h = All-nil Q
    based_given (pure.base_of e) h = tree_given e h

    pub dims_given : (x : Dims) → OfDims N P x → All Q (in_dims named placed x)
    dims_given pure.no_array h = All-nil Q
    dims_given (pure.array_of bs) h = bases_given bs h

    pub bases_given : (x : Bases) → OfBases N P x → All Q (in_bases named placed x)
    bases_given pure.no_bases h = All-nil Q
    bases_given (pure.a_base b bs) h = All-append Q (in_based named placed b) (in_bases named placed bs) (based_given b h.0) (bases_given bs h.1)

  pub goal_given : (x : GoalTree) → OfGoal N P x → All Q (in_goal named placed x)
  goal_given satisfy h = All-nil Q
  goal_given (minimize e) h = tree_given e h
  goal_given (maximize e) h = tree_given e h

  pub cases_given : (x : Option (List (Name × Span))) → OfCases N P x → All Q (in_cases named placed x)
  cases_given None h = All-nil Q
  cases_given (Some ns) h = all_flat Q (IsSpot N P) (spot named placed) spot_given ns h

  pub item_given : (x : ItemTree) → OfItem N P x → All Q (in_item named placed x)
  item_given (include n s) h = All-append Q (named n) (placed s) (name n h.0) (place s h.1)
  item_given (declare d) h = declaration_given d h
  item_given (assign n s e) h = All-append Q ((named n) ++ (placed s)) (in_tree named placed e) (All-append Q (named n) (placed s) (name n h.0) (place s h.1)) (tree_given e h.2)
  item_given (constraint e) h = tree_given e h
  item_given (solve s g) h = All-append Q (placed s) (in_goal named placed g) (place s h.0) (goal_given g h.1)
  item_given (output e) h = tree_given e h
  item_given (function f) h = All-append Q ((((named f.name) ++ (placed f.span)) ++ (in_written named placed f.result)) ++ (flat_map (in_declaration named placed) f.params)) (in_tree named placed f.body) (All-append Q (((named f.name) ++ (placed f.span)) ++ (in_written named placed f.result)) (flat_map (in_declaration named placed) f.params) (All-append Q ((named f.name) ++ (placed f.span)) (in_written named placed f.result) (All-append Q (named f.name) (placed f.span) (name f.name h.0) (place f.span h.1)) (written_given f.result h.2)) (all_flat Q (OfDeclaration N P) (in_declaration named placed) declaration_given f.params h.3)) (tree_given f.body h.4)
  item_given (enum n s cs) h = All-append Q ((named n) ++ (placed s)) (in_cases named placed cs) (All-append Q (named n) (placed s) (name n h.0) (place s h.1)) (cases_given cs h.2)
  item_given (annotation n) h = name n h
