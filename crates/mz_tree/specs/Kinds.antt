-- Every name and every place in a tree is of a kind.
use Rattle.std.specs.Prelude.{◌≡◌, ℕ, ◌<◌, List, [], ◌∷◌, Option, Some, None, All, refl}
use Rattle.mz_base.specs.declared.fault.Span.{Span}
use Rattle.mz_tree.specs.Tree as pure
use Rattle.mz_tree.specs.Tree.{Name, Tree, Shape, Maybe, Trees, Links, Rows, Branches, Part, Parts, Generator, Gens, Let, Lets, Declaration, Written, Based, Dims, Bases}
use Rattle.mz_tree.specs.Names.{item_names, item_places}
use Rattle.mz_tree.specs.Items.{GoalTree, satisfy, minimize, maximize, ItemTree, include, declare, assign, constraint, solve, output, function, enum, annotation}

module _ (Named : Name → Type 0) (Placed : Span → Type 0) where
  -- a name with its place
  abbrev pub IsSpot : Name × Span → Type 0
  IsSpot n = Named n.0 × Placed n.1

  unfoldable mutual
    pub OfTree : Tree → Type 0
    OfTree (pure.node s f) = Placed s × OfShape f

    pub OfShape : Shape → Type 0
    OfShape (pure.int z) = Unit {0}
    OfShape (pure.bool b) = Unit {0}
    OfShape pure.absent = Unit {0}
    OfShape (pure.text n) = Named n
    OfShape (pure.ident n) = Named n
    OfShape (pure.interp ps) = OfParts ps
    OfShape (pure.unary op e) = OfTree e
    OfShape (pure.chain e ls) = OfTree e × OfLinks ls
    OfShape (pure.call n es) = Named n × OfTrees es
    OfShape (pure.gen_call n gs e) = Named n × OfGens gs × OfTree e
    OfShape (pure.access e es) = OfTree e × OfTrees es
    OfShape (pure.array es) = OfTrees es
    OfShape (pure.rows rs) = OfRows rs
    OfShape (pure.set es) = OfTrees es
    OfShape (pure.array_comp e gs) = OfTree e × OfGens gs
    OfShape (pure.set_comp e gs) = OfTree e × OfGens gs
    OfShape (pure.choice bs e) = OfBranches bs × OfMaybe e
    OfShape (pure.let_in ls e) = OfLets ls × OfTree e
    OfShape pure.whole = Unit {0}

    pub OfMaybe : Maybe → Type 0
    OfMaybe pure.nothing = Unit {0}
    OfMaybe (pure.just e) = OfTree e

    pub OfTrees : Trees → Type 0
    OfTrees pure.no_trees = Unit {0}
    OfTrees (pure.a_tree e es) = OfTree e × OfTrees es

    pub OfLinks : Links → Type 0
    OfLinks pure.no_links = Unit {0}
    OfLinks (pure.a_link o e ls) = Placed o.start × OfTree e × OfLinks ls

    pub OfRows : Rows → Type 0
    OfRows pure.no_rows = Unit {0}
    OfRows (pure.a_row r rs) = OfTrees r × OfRows rs

    pub OfBranches : Branches → Type 0
    OfBranches pure.no_branches = Unit {0}
    OfBranches (pure.a_branch c e bs) = OfTree c × OfTree e × OfBranches bs

    pub OfPart : Part → Type 0
    OfPart (pure.plain n) = Named n
    OfPart (pure.shown e) = OfTree e

    pub OfParts : Parts → Type 0
    OfParts pure.no_parts = Unit {0}
    OfParts (pure.a_part p ps) = OfPart p × OfParts ps

    pub OfGenerator : Generator → Type 0
    OfGenerator (pure.generator ns e c) = All IsSpot ns × OfTree e × OfMaybe c

    pub OfGens : Gens → Type 0
    OfGens pure.no_gens = Unit {0}
    OfGens (pure.a_gen g gs) = OfGenerator g × OfGens gs

    pub OfLet : Let → Type 0
    OfLet (pure.declared d) = OfDeclaration d
    OfLet (pure.constrained e) = OfTree e

    pub OfLets : Lets → Type 0
    OfLets pure.no_lets = Unit {0}
    OfLets (pure.a_let l ls) = OfLet l × OfLets ls

    pub OfDeclaration : Declaration → Type 0
    OfDeclaration (pure.declaration t n s e) = OfWritten t × Named n × Placed s × OfMaybe e

    pub OfWritten : Written → Type 0
    OfWritten (pure.written s ds var opt set b) = Placed s × OfDims ds × OfBased b

    pub OfBased : Based → Type 0
    OfBased pure.base_bool = Unit {0}
    OfBased pure.base_int = Unit {0}
    OfBased (pure.base_of e) = OfTree e

    pub OfDims : Dims → Type 0
    OfDims pure.no_array = Unit {0}
    OfDims (pure.array_of bs) = OfBases bs

    pub OfBases : Bases → Type 0
    OfBases pure.no_bases = Unit {0}
    OfBases (pure.a_base b bs) = OfBased b × OfBases bs

  abbrev pub OfGoal : GoalTree → Type 0
  OfGoal satisfy = Unit {0}
  OfGoal (minimize e) = OfTree e
  OfGoal (maximize e) = OfTree e

  abbrev pub OfCases : Option (List (Name × Span)) → Type 0
  OfCases None = Unit {0}
  OfCases (Some ns) = All IsSpot ns

  abbrev pub OfItem : ItemTree → Type 0
  OfItem (include n s) = Named n × Placed s
  OfItem (declare d) = OfDeclaration d
  OfItem (assign n s e) = Named n × Placed s × OfTree e
  OfItem (constraint e) = OfTree e
  OfItem (solve s g) = Placed s × OfGoal g
  OfItem (output e) = OfTree e
  OfItem (function f) = Named f.name × Placed f.span × OfWritten f.result × All OfDeclaration f.params × OfTree f.body
  OfItem (enum n s cs) = Named n × Placed s × OfCases cs
  OfItem (annotation n) = Named n

-- The kinds that later stages ask of an item: its names are numbers below a count, and its places are in one file.
abbrev pub IsItemWithin : ℕ → ℕ → ItemTree → Type 0
IsItemWithin count file i = OfItem (λ n. n < count) (λ s. s.file ≡ file) i

-- such an item's lists of names and of places have these kinds
abbrev pub HasNamesAndPlaces : Type 0
HasNamesAndPlaces = (count file : ℕ) (i : ItemTree) → IsItemWithin count file i → All (λ n. n < count) (item_names i) × All (λ s. s.file ≡ file) (item_places i)

-- What is said of `f(x)`, by its places and names
pub of_a_call : (Named : Name → Type 0) (Placed : Span → Type 0) (s t : Span)
    → OfTree Named Placed (pure.node s (pure.call 0 (pure.trees (pure.node t (pure.ident 1) ∷ [])))) ≡ (Placed s × (Named 0 × ((Placed t × Named 1) × Unit {0})))
unfolding OfTree
of_a_call Named Placed s t = refl
