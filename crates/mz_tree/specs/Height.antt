-- How high a tree is: how deep its expressions are nested.
use Rattle.std.specs.Prelude.{◌≡◌, ℕ, zero, suc, max, ◌+◌}
use Rattle.std.proofs.Common.{refl}
use Rattle.mz_base.specs.declared.limit.TheConstants.{OPEN_LIMIT}
use Rattle.mz_tree.specs.declared.height.TheConstants.{HEIGHT_LIMIT}
use Rattle.mz_tree.specs.Tree as pure
use Rattle.mz_tree.specs.Tree.{Tree, Shape, Maybe, Trees, Links, Rows, Branches, Part, Parts, Generator, Gens, Let, Lets, Declaration, Written, Based, Dims, Bases}

unfoldable mutual
  -- an expression is one higher than the highest of its parts
  pub height : Tree → ℕ
  height (pure.node s f) = suc (shape_height f)

  pub shape_height : Shape → ℕ
  shape_height (pure.int n) = 0
  shape_height (pure.bool b) = 0
  shape_height pure.absent = 0
  shape_height (pure.text n) = 0
  shape_height (pure.ident n) = 0
  shape_height (pure.interp ps) = parts_height ps
  shape_height (pure.unary op e) = height e
  shape_height (pure.chain e ls) = max (height e) (links_height ls)
  shape_height (pure.call f es) = trees_height es
  shape_height (pure.gen_call f gs e) = max (gens_height gs) (height e)
  shape_height (pure.access e es) = max (height e) (trees_height es)
  shape_height (pure.array es) = trees_height es
  shape_height (pure.rows rs) = rows_height rs
  shape_height (pure.set es) = trees_height es
  shape_height (pure.array_comp e gs) = max (height e) (gens_height gs)
  shape_height (pure.set_comp e gs) = max (height e) (gens_height gs)
  shape_height (pure.choice bs e) = max (branches_height bs) (maybe_height e)
  shape_height (pure.let_in ls e) = max (lets_height ls) (height e)
  shape_height pure.whole = 0

  pub maybe_height : Maybe → ℕ
  maybe_height pure.nothing = 0
  maybe_height (pure.just e) = height e

  pub trees_height : Trees → ℕ
  trees_height pure.no_trees = 0
  trees_height (pure.a_tree e es) = max (height e) (trees_height es)

  pub links_height : Links → ℕ
  links_height pure.no_links = 0
  links_height (pure.a_link op e ls) = max (height e) (links_height ls)

  pub rows_height : Rows → ℕ
  rows_height pure.no_rows = 0
  rows_height (pure.a_row r rs) = max (trees_height r) (rows_height rs)

  pub branches_height : Branches → ℕ
  branches_height pure.no_branches = 0
  branches_height (pure.a_branch c e bs) = max (height c) (max (height e) (branches_height bs))

  pub part_height : Part → ℕ
  part_height (pure.plain n) = 0
  part_height (pure.shown e) = height e

  pub parts_height : Parts → ℕ
  parts_height pure.no_parts = 0
  parts_height (pure.a_part p ps) = max (part_height p) (parts_height ps)

  pub generator_height : Generator → ℕ
  generator_height (pure.generator ns e c) = max (height e) (maybe_height c)

  pub gens_height : Gens → ℕ
  gens_height pure.no_gens = 0
  gens_height (pure.a_gen g gs) = max (generator_height g) (gens_height gs)

  pub let_height : Let → ℕ
  let_height (pure.declared d) = declaration_height d
  let_height (pure.constrained e) = height e

  pub lets_height : Lets → ℕ
  lets_height pure.no_lets = 0
  lets_height (pure.a_let l ls) = max (let_height l) (lets_height ls)

  pub declaration_height : Declaration → ℕ
  declaration_height (pure.declaration t n s e) = max (written_height t) (maybe_height e)

  pub written_height : Written → ℕ
  written_height (pure.written s ds var opt set b) = max (dims_height ds) (based_height b)

  pub based_height : Based → ℕ
  based_height pure.base_bool = 0
  based_height pure.base_int = 0
  based_height (pure.base_of e) = height e

  pub dims_height : Dims → ℕ
  dims_height pure.no_array = 0
  dims_height (pure.array_of bs) = bases_height bs

  pub bases_height : Bases → ℕ
  bases_height pure.no_bases = 0
  bases_height (pure.a_base b bs) = max (based_height b) (bases_height bs)

-- How high an expression may be where room tokens more may be opened. With no room it is one form
-- within the twelve levels of binary operators. With room, an atom may have as many accesses as there
-- is room for; each makes one expression round the one before, and the innermost stands round an
-- expression with less room by one.
unfoldable pub most : ℕ → ℕ
most zero = 13
most (suc room) = most room + 13 + suc room

-- the bound for a whole file
pub most_in_a_file : most OPEN_LIMIT ≡ HEIGHT_LIMIT
unfolding most
most_in_a_file = refl
