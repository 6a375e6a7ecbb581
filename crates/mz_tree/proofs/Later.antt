-- What holds of the names and places in a tree where more names and places are of the kind.
use Rattle.std.specs.Prelude.{List, Option, Some, None, All}
use Rattle.std.proofs.lemmas.List.Elements.{All-weaker}
use Rattle.mz_base.specs.declared.fault.Span.{Span}
use Rattle.mz_tree.specs.Tree as pure
use Rattle.mz_tree.specs.Tree.{Name, Tree, Shape, Maybe, Trees, Links, Rows, Branches, Part, Parts, Generator, Gens, Let, Lets, Declaration, Written, Based, Dims, Bases}
use Rattle.mz_tree.specs.Items.{GoalTree, satisfy, minimize, maximize, ItemTree, include, declare, assign, constraint, solve, output, function, enum, annotation}
use Rattle.mz_tree.specs.Kinds.{IsSpot, OfTree, OfShape, OfMaybe, OfTrees, OfLinks, OfRows, OfBranches, OfPart, OfParts, OfGenerator, OfGens, OfLet, OfLets, OfDeclaration, OfWritten, OfBased, OfDims, OfBases, OfGoal, OfCases, OfItem}

module _ (N M : Name → Type 0) (P Q : Span → Type 0) (name : (n : Name) → N n → M n) (place : (s : Span) → P s → Q s) where
  spots_later : (ns : List (Name × Span)) → All (IsSpot N P) ns → All (IsSpot M Q) ns
  spots_later ns h = All-weaker (IsSpot N P) (IsSpot M Q) (λ n g. (name n.0 g.0, place n.1 g.1)) ns h

  mutual
    unfolding OfTree

    tree_later : (e : Tree) → OfTree N P e → OfTree M Q e
    tree_later (pure.node s f) h = (place s h.0, shape_later f h.1)

    shape_later : (f : Shape) → OfShape N P f → OfShape M Q f
    shape_later (pure.int z) h = tt
    shape_later (pure.bool b) h = tt
    shape_later pure.absent h = tt
    shape_later (pure.text n) h = name n h
    shape_later (pure.ident n) h = name n h
    shape_later (pure.interp ps) h = parts_later ps h
    shape_later (pure.unary op e) h = tree_later e h
    shape_later (pure.chain e ls) h = (tree_later e h.0, links_later ls h.1)
    shape_later (pure.call n es) h = (name n h.0, trees_later es h.1)
    shape_later (pure.gen_call n gs e) h = (name n h.0, gens_later gs h.1, tree_later e h.2)
    shape_later (pure.access e es) h = (tree_later e h.0, trees_later es h.1)
    shape_later (pure.array es) h = trees_later es h
    shape_later (pure.rows rs) h = rows_later rs h
    shape_later (pure.set es) h = trees_later es h
    shape_later (pure.array_comp e gs) h = (tree_later e h.0, gens_later gs h.1)
    shape_later (pure.set_comp e gs) h = (tree_later e h.0, gens_later gs h.1)
    shape_later (pure.choice bs e) h = (branches_later bs h.0, maybe_later e h.1)
    shape_later (pure.let_in ls e) h = (lets_later ls h.0, tree_later e h.1)
    shape_later pure.whole h = tt

    maybe_later : (e : Maybe) → OfMaybe N P e → OfMaybe M Q e
    maybe_later pure.nothing h = tt
    maybe_later (pure.just e) h = tree_later e h

    trees_later : (es : Trees) → OfTrees N P es → OfTrees M Q es
    trees_later pure.no_trees h = tt
    trees_later (pure.a_tree e es) h = (tree_later e h.0, trees_later es h.1)

    links_later : (ls : Links) → OfLinks N P ls → OfLinks M Q ls
    links_later pure.no_links h = tt
    links_later (pure.a_link o e ls) h = (place o.start h.0, tree_later e h.1, links_later ls h.2)

    rows_later : (rs : Rows) → OfRows N P rs → OfRows M Q rs
    rows_later pure.no_rows h = tt
    rows_later (pure.a_row r rs) h = (trees_later r h.0, rows_later rs h.1)

    branches_later : (bs : Branches) → OfBranches N P bs → OfBranches M Q bs
    branches_later pure.no_branches h = tt
    branches_later (pure.a_branch c e bs) h = (tree_later c h.0, tree_later e h.1, branches_later bs h.2)

    part_later : (p : Part) → OfPart N P p → OfPart M Q p
    part_later (pure.plain n) h = name n h
    part_later (pure.shown e) h = tree_later e h

    parts_later : (ps : Parts) → OfParts N P ps → OfParts M Q ps
    parts_later pure.no_parts h = tt
    parts_later (pure.a_part p ps) h = (part_later p h.0, parts_later ps h.1)

    generator_later : (g : Generator) → OfGenerator N P g → OfGenerator M Q g
    generator_later (pure.generator ns e c) h = (spots_later ns h.0, tree_later e h.1, maybe_later c h.2)

    gens_later : (gs : Gens) → OfGens N P gs → OfGens M Q gs
    gens_later pure.no_gens h = tt
    gens_later (pure.a_gen g gs) h = (generator_later g h.0, gens_later gs h.1)

    let_later : (l : Let) → OfLet N P l → OfLet M Q l
    let_later (pure.declared d) h = declaration_later d h
    let_later (pure.constrained e) h = tree_later e h

    lets_later : (ls : Lets) → OfLets N P ls → OfLets M Q ls
    lets_later pure.no_lets h = tt
    lets_later (pure.a_let l ls) h = (let_later l h.0, lets_later ls h.1)

    declaration_later : (d : Declaration) → OfDeclaration N P d → OfDeclaration M Q d
    declaration_later (pure.declaration t n s e) h = (written_later t h.0, name n h.1, place s h.2, maybe_later e h.3)

    written_later : (t : Written) → OfWritten N P t → OfWritten M Q t
    written_later (pure.written s ds var opt set b) h = (place s h.0, dims_later ds h.1, based_later b h.2)

    based_later : (b : Based) → OfBased N P b → OfBased M Q b
    based_later pure.base_bool h = tt
    based_later pure.base_int h = tt
    based_later (pure.base_of e) h = tree_later e h

    dims_later : (ds : Dims) → OfDims N P ds → OfDims M Q ds
    dims_later pure.no_array h = tt
    dims_later (pure.array_of bs) h = bases_later bs h

    bases_later : (bs : Bases) → OfBases N P bs → OfBases M Q bs
    bases_later pure.no_bases h = tt
    bases_later (pure.a_base b bs) h = (based_later b h.0, bases_later bs h.1)

  goal_later : (g : GoalTree) → OfGoal N P g → OfGoal M Q g
  goal_later satisfy h = tt
  goal_later (minimize e) h = tree_later e h
  goal_later (maximize e) h = tree_later e h

  cases_later : (cs : Option (List (Name × Span))) → OfCases N P cs → OfCases M Q cs
  cases_later None h = tt
  cases_later (Some ns) h = spots_later ns h

  pub item_later : (i : ItemTree) → OfItem N P i → OfItem M Q i
  item_later (include n s) h = (name n h.0, place s h.1)
  item_later (declare d) h = declaration_later d h
  item_later (assign n s e) h = (name n h.0, place s h.1, tree_later e h.2)
  item_later (constraint e) h = tree_later e h
  item_later (solve s g) h = (place s h.0, goal_later g h.1)
  item_later (output e) h = tree_later e h
  item_later (function f) h = (name f.name h.0, place f.span h.1, written_later f.result h.2, All-weaker (OfDeclaration N P) (OfDeclaration M Q) declaration_later f.params h.3, tree_later f.body h.4)
  item_later (enum n s cs) h = (name n h.0, place s h.1, cases_later cs h.2)
  item_later (annotation n) h = name n h
