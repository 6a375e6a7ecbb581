-- Every tree is one whose names and places are of the kind of all.
use Rattle.mz_base.specs.declared.fault.Span.{Span}
use Rattle.mz_tree.specs.Tree as pure
use Rattle.mz_tree.specs.Tree.{Name, Tree, Shape, Maybe, Trees, Links, Rows, Branches, Part, Parts, Generator, Gens, Let, Lets, Declaration, Written, Based, Dims, Bases}
use Rattle.mz_tree.specs.Items.{GoalTree, satisfy, minimize, maximize}
use Rattle.mz_tree.specs.Kinds.{OfGoal, OfTree, OfShape, OfMaybe, OfTrees, OfLinks, OfRows, OfBranches, OfPart, OfParts, OfGenerator, OfGens, OfLet, OfLets, OfDeclaration, OfWritten, OfBased, OfDims, OfBases}

abbrev pub AnyName : Name → Type 0
AnyName n = Unit {0}

abbrev pub AnyPlace : Span → Type 0
AnyPlace s = Unit {0}

mutual
  unfolding OfTree

  pub any_tree : (e : Tree) → OfTree AnyName AnyPlace e
  any_tree (pure.node s f) = (tt, any_shape f)

  any_shape : (f : Shape) → OfShape AnyName AnyPlace f
  any_shape (pure.int z) = tt
  any_shape (pure.bool b) = tt
  any_shape pure.absent = tt
  any_shape (pure.text n) = tt
  any_shape (pure.ident n) = tt
  any_shape (pure.interp ps) = any_parts ps
  any_shape (pure.unary op e) = any_tree e
  any_shape (pure.chain e ls) = (any_tree e, any_links ls)
  any_shape (pure.call n es) = (tt, any_trees es)
  any_shape (pure.gen_call n gs e) = (tt, any_gens gs, any_tree e)
  any_shape (pure.access e es) = (any_tree e, any_trees es)
  any_shape (pure.array es) = any_trees es
  any_shape (pure.rows rs) = any_rows rs
  any_shape (pure.set es) = any_trees es
  any_shape (pure.array_comp e gs) = (any_tree e, any_gens gs)
  any_shape (pure.set_comp e gs) = (any_tree e, any_gens gs)
  any_shape (pure.choice bs e) = (any_branches bs, any_maybe e)
  any_shape (pure.let_in ls e) = (any_lets ls, any_tree e)
  any_shape pure.whole = tt

  pub any_maybe : (m : Maybe) → OfMaybe AnyName AnyPlace m
  any_maybe pure.nothing = tt
  any_maybe (pure.just e) = any_tree e

  any_trees : (es : Trees) → OfTrees AnyName AnyPlace es
  any_trees pure.no_trees = tt
  any_trees (pure.a_tree e es) = (any_tree e, any_trees es)

  any_links : (ls : Links) → OfLinks AnyName AnyPlace ls
  any_links pure.no_links = tt
  any_links (pure.a_link o e ls) = (tt, any_tree e, any_links ls)

  any_rows : (rs : Rows) → OfRows AnyName AnyPlace rs
  any_rows pure.no_rows = tt
  any_rows (pure.a_row r rs) = (any_trees r, any_rows rs)

  any_branches : (bs : Branches) → OfBranches AnyName AnyPlace bs
  any_branches pure.no_branches = tt
  any_branches (pure.a_branch c e bs) = (any_tree c, any_tree e, any_branches bs)

  any_part : (p : Part) → OfPart AnyName AnyPlace p
  any_part (pure.plain n) = tt
  any_part (pure.shown e) = any_tree e

  any_parts : (ps : Parts) → OfParts AnyName AnyPlace ps
  any_parts pure.no_parts = tt
  any_parts (pure.a_part p ps) = (any_part p, any_parts ps)

  any_generator : (g : Generator) → OfGenerator AnyName AnyPlace g
  any_generator (pure.generator ns e c) = ((λ k d low. (tt, tt)), any_tree e, any_maybe c)

  any_gens : (gs : Gens) → OfGens AnyName AnyPlace gs
  any_gens pure.no_gens = tt
  any_gens (pure.a_gen g gs) = (any_generator g, any_gens gs)

  any_let : (l : Let) → OfLet AnyName AnyPlace l
  any_let (pure.declared d) = any_declaration d
  any_let (pure.constrained e) = any_tree e

  any_lets : (ls : Lets) → OfLets AnyName AnyPlace ls
  any_lets pure.no_lets = tt
  any_lets (pure.a_let l ls) = (any_let l, any_lets ls)

  pub any_declaration : (d : Declaration) → OfDeclaration AnyName AnyPlace d
  any_declaration (pure.declaration t n s e) = (any_written t, tt, tt, any_maybe e)

  pub any_written : (t : Written) → OfWritten AnyName AnyPlace t
  any_written (pure.written s ds var opt set b) = (tt, any_dims ds, any_based b)

  any_based : (b : Based) → OfBased AnyName AnyPlace b
  any_based pure.base_bool = tt
  any_based pure.base_int = tt
  any_based (pure.base_of e) = any_tree e

  any_dims : (ds : Dims) → OfDims AnyName AnyPlace ds
  any_dims pure.no_array = tt
  any_dims (pure.array_of bs) = any_bases bs

  any_bases : (bs : Bases) → OfBases AnyName AnyPlace bs
  any_bases pure.no_bases = tt
  any_bases (pure.a_base b bs) = (any_based b, any_bases bs)

pub any_goal : (g : GoalTree) → OfGoal AnyName AnyPlace g
any_goal satisfy = tt
any_goal (minimize e) = any_tree e
any_goal (maximize e) = any_tree e
