-- Trees of expressions, without where they lie in memory. A name is its number.
use Rattle.std.specs.Prelude.{ℕ, ℤ, Bool, List, [], ◌∷◌, Option, Some, None}
use Rattle.mz_base.specs.declared.fault.Span.{Span}
use Rattle.mz_tree.specs.declared.expr.UnOp.{UnOp}
use Rattle.mz_tree.specs.declared.expr.BinOp.{BinOp}
use Rattle.mz_tree.specs.declared.expr.PlacedOp.{PlacedOp}

abbrev pub Name : Type 0
Name = ℕ

mutual
  -- an expression with the place of its first token
  pub data Tree : Type 0 where
    node : Span → Shape → Tree

  -- an expression's outermost form
  pub data Shape : Type 0 where
    int : ℤ → Shape
    bool : Bool → Shape
    absent : Shape
    text : Name → Shape
    ident : Name → Shape
    interp : Parts → Shape
    unary : UnOp → Tree → Shape
    chain : Tree → Links → Shape
    call : Name → Trees → Shape
    gen_call : Name → Gens → Tree → Shape
    access : Tree → Trees → Shape
    array : Trees → Shape
    rows : Rows → Shape
    set : Trees → Shape
    array_comp : Tree → Gens → Shape
    set_comp : Tree → Gens → Shape
    choice : Branches → Maybe → Shape
    let_in : Lets → Tree → Shape
    whole : Shape

  pub data Maybe : Type 0 where
    nothing : Maybe
    just : Tree → Maybe

  pub data Trees : Type 0 where
    no_trees : Trees
    a_tree : Tree → Trees → Trees

  -- an operator and the operand after it
  pub data Links : Type 0 where
    no_links : Links
    a_link : PlacedOp → Tree → Links → Links

  pub data Rows : Type 0 where
    no_rows : Rows
    a_row : Trees → Rows → Rows

  -- a condition and what follows its `then`
  pub data Branches : Type 0 where
    no_branches : Branches
    a_branch : Tree → Tree → Branches → Branches

  -- a piece of a text, and an expression that is shown in it
  pub data Part : Type 0 where
    plain : Name → Part
    shown : Tree → Part

  pub data Parts : Type 0 where
    no_parts : Parts
    a_part : Part → Parts → Parts

  pub data Generator : Type 0 where
    generator : List (Name × Span) → Tree → Maybe → Generator

  pub data Gens : Type 0 where
    no_gens : Gens
    a_gen : Generator → Gens → Gens

  pub data Let : Type 0 where
    declared : Declaration → Let
    constrained : Tree → Let

  pub data Lets : Type 0 where
    no_lets : Lets
    a_let : Let → Lets → Lets

  -- a declaration with the place of its name
  pub data Declaration : Type 0 where
    declaration : Written → Name → Span → Maybe → Declaration

  -- a written type: whether it is an array, its index types, var, opt, set, and its base
  pub data Written : Type 0 where
    written : Span → Dims → Bool → Bool → Bool → Based → Written

  pub data Based : Type 0 where
    base_bool : Based
    base_int : Based
    base_of : Tree → Based

  pub data Dims : Type 0 where
    no_array : Dims
    array_of : Bases → Dims

  pub data Bases : Type 0 where
    no_bases : Bases
    a_base : Based → Bases → Bases

-- an operator, and where the operand after it begins
abbrev pub op_before : BinOp → Span → PlacedOp
op_before o at = record { op = o; start = at }

abbrev pub maybe : Option Tree → Maybe
maybe None = nothing
maybe (Some e) = just e

abbrev pub trees : List Tree → Trees
trees [] = no_trees
trees (e ∷ es) = a_tree e (trees es)

abbrev pub links : List (PlacedOp × Tree) → Links
links [] = no_links
links (l ∷ ls) = a_link l.0 l.1 (links ls)

abbrev pub rows_of : List (List Tree) → Rows
rows_of [] = no_rows
rows_of (r ∷ rs) = a_row (trees r) (rows_of rs)

abbrev pub branches : List (Tree × Tree) → Branches
branches [] = no_branches
branches (b ∷ bs) = a_branch b.0 b.1 (branches bs)

abbrev pub parts : List Part → Parts
parts [] = no_parts
parts (p ∷ ps) = a_part p (parts ps)

abbrev pub gens : List Generator → Gens
gens [] = no_gens
gens (g ∷ gs) = a_gen g (gens gs)

abbrev pub lets : List Let → Lets
lets [] = no_lets
lets (l ∷ ls) = a_let l (lets ls)

abbrev pub bases : List Based → Bases
bases [] = no_bases
bases (b ∷ bs) = a_base b (bases bs)

abbrev pub dims : Option (List Based) → Dims
dims None = no_array
dims (Some bs) = array_of (bases bs)

-- an array type with these index types, whose elements have this type
abbrev pub array_type : Span → List Based → Written → Written
array_type s bs (written t ds v o st b) = written s (array_of (bases bs)) v o st b

-- this type after `var` or `par`
abbrev pub marked : Span → Bool → Written → Written
marked s var (written t ds v o st b) = written s ds var o st b
