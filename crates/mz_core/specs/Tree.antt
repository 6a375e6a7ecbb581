-- Typed expressions, without where they lie in memory. A name, a slot, a row and a function go by
-- their numbers.
use Rattle.std.specs.Prelude.{ℕ, ℤ, Bool, List, [], ◌∷◌, ◌++◌, Option, Some, None}
use Rattle.mz_base.specs.declared.fault.Span.{Span}
use Rattle.mz_core.specs.declared.types.Coercion.{Coercion}
use Rattle.mz_core.specs.Types.{PlainType}
use Rattle.mz_core.specs.Coercions.{PathLink}

mutual
  -- an expression with the place of its first token and its type
  pub data Tree : Type 0 where
    node : Span → PlainType → Shape → Tree

  -- an expression's outermost form
  pub data Shape : Type 0 where
    bool : Bool → Shape
    int : ℤ → Shape
    -- an enum's number, and a case of it, of which the first is 1
    case : ℕ → ℤ → Shape
    text : ℕ → Shape
    absent : Shape
    -- all cases of the enum with this number
    enum_set : ℕ → Shape
    slot : ℕ → Shape
    whole : Shape
    chain : Tree → Steps → Shape
    builtin : ℕ → Trees → Shape
    call : ℕ → Trees → Shape
    access : Tree → Trees → Shape
    array : Trees → Shape
    rows : Rows → Shape
    set : Trees → Shape
    -- whether it is in braces, its head, and its generators
    comp : Bool → Tree → Gens → Shape
    choice : Branches → Maybe → Shape
    let_in : Items → Tree → Shape
    coerce : Coercion → Tree → Shape

  pub data Maybe : Type 0 where
    nothing : Maybe
    just : Tree → Maybe

  pub data Trees : Type 0 where
    no_trees : Trees
    a_tree : Tree → Trees → Trees

  pub data Maybes : Type 0 where
    no_maybes : Maybes
    a_maybe : Maybe → Maybes → Maybes

  pub data Rows : Type 0 where
    no_rows : Rows
    a_row : Trees → Rows → Rows

  -- a condition and its branch
  pub data Branches : Type 0 where
    no_branches : Branches
    a_branch : Tree → Tree → Branches → Branches

  -- the place of an operand's first token, a parenthesis too; the row and the type of its operator, the coercions of both operands, and the
  -- operand itself, which is the second one
  pub data Steps : Type 0 where
    no_steps : Steps
    a_step : Span → ℕ → PlainType → List PathLink → List PathLink → Tree → Steps → Steps

  -- slots, the set that they run over, and a condition
  pub data Gens : Type 0 where
    no_gens : Gens
    a_gen : List ℕ → Tree → Maybe → Gens → Gens

  -- a declaration's slot, its name with the name's place, its type's place, the type, the index sets
  -- and the set, and its value; or a constraint
  pub data Items : Type 0 where
    no_items : Items
    a_decl : ℕ → ℕ → Span → Span → PlainType → Maybes → Maybe → Maybe → Items → Items
    a_constraint : Tree → Items → Items

-- WHAT STANDS IN LISTS, as definitions read it

-- an operator of a chain
pub record Step : Type 0 where
  -- where its operand begins, with a parenthesis
  pub start : Span
  pub row : ℕ
  pub ty : PlainType
  pub left : List PathLink
  pub right : List PathLink
  pub operand : Tree

pub record Gen : Type 0 where
  pub slots : List ℕ
  pub set : Tree
  pub cond : Option Tree

-- a type with its place, its index sets, and the set of its values
pub record DeclaredType : Type 0 where
  pub span : Span
  pub ty : PlainType
  pub index : List (Option Tree)
  pub set : Option Tree

pub record Decl : Type 0 where
  pub slot : ℕ
  pub name : ℕ
  pub span : Span
  pub ty : DeclaredType
  pub value : Option Tree

-- an item of a let
pub data Item : Type 0 where
  declares : Decl → Item
  constrains : Tree → Item

-- LISTS OF PARTS, made and read

abbrev pub maybe : Option Tree → Maybe
maybe None = nothing
maybe (Some e) = just e

abbrev pub trees : List Tree → Trees
trees [] = no_trees
trees (e ∷ es) = a_tree e (trees es)

abbrev pub maybes : List (Option Tree) → Maybes
maybes [] = no_maybes
maybes (m ∷ ms) = a_maybe (maybe m) (maybes ms)

abbrev pub rows_of : List (List Tree) → Rows
rows_of [] = no_rows
rows_of (r ∷ rs) = a_row (trees r) (rows_of rs)

abbrev pub branches : List (Tree × Tree) → Branches
branches [] = no_branches
branches (b ∷ bs) = a_branch b.0 b.1 (branches bs)

abbrev pub steps : List Step → Steps
steps [] = no_steps
steps (s ∷ ss) = a_step s.start s.row s.ty s.left s.right s.operand (steps ss)

abbrev pub gens : List Gen → Gens
gens [] = no_gens
gens (g ∷ gs) = a_gen g.slots g.set (maybe g.cond) (gens gs)

abbrev pub items : List Item → Items
items [] = no_items
items (declares d ∷ is) = a_decl d.slot d.name d.span d.ty.span d.ty.ty (maybes d.ty.index) (maybe d.ty.set) (maybe d.value) (items is)
items (constrains e ∷ is) = a_constraint e (items is)

abbrev pub if_tree : Maybe → Option Tree
if_tree nothing = None
if_tree (just e) = Some e

abbrev pub all_trees : Trees → List Tree
all_trees no_trees = []
all_trees (a_tree e es) = e ∷ all_trees es

abbrev pub all_maybes : Maybes → List (Option Tree)
all_maybes no_maybes = []
all_maybes (a_maybe m ms) = if_tree m ∷ all_maybes ms

abbrev pub all_rows : Rows → List (List Tree)
all_rows no_rows = []
all_rows (a_row r rs) = all_trees r ∷ all_rows rs

abbrev pub all_branches : Branches → List (Tree × Tree)
all_branches no_branches = []
all_branches (a_branch c e bs) = (c, e) ∷ all_branches bs

abbrev pub all_steps : Steps → List Step
all_steps no_steps = []
all_steps (a_step sp r t l m e ss) = record { start = sp; row = r; ty = t; left = l; right = m; operand = e } ∷ all_steps ss

abbrev pub all_gens : Gens → List Gen
all_gens no_gens = []
all_gens (a_gen ss e c gs) = record { slots = ss; set = e; cond = if_tree c } ∷ all_gens gs

abbrev pub all_items : Items → List Item
all_items no_items = []
all_items (a_decl s n p q t ix m v is) =
    declares (record { slot = s; name = n; span = p; ty = record { span = q; ty = t; index = all_maybes ix; set = if_tree m }; value = if_tree v }) ∷ all_items is
all_items (a_constraint e is) = constrains e ∷ all_items is

-- ONE LAYER OF A TREE, with its parts as lists: what definitions match on

pub data Layer : Type 0 where
  bool_form : Bool → Layer
  int_form : ℤ → Layer
  case_form : ℕ → ℤ → Layer
  text_form : ℕ → Layer
  absent_form : Layer
  enum_set_form : ℕ → Layer
  slot_form : ℕ → Layer
  whole_form : Layer
  chain_form : Tree → List Step → Layer
  builtin_form : ℕ → List Tree → Layer
  call_form : ℕ → List Tree → Layer
  access_form : Tree → List Tree → Layer
  array_form : List Tree → Layer
  rows_form : List (List Tree) → Layer
  set_form : List Tree → Layer
  comp_form : Bool → Tree → List Gen → Layer
  if_form : List (Tree × Tree) → Option Tree → Layer
  let_form : List Item → Tree → Layer
  coerce_form : Coercion → Tree → Layer

abbrev pub layer : Shape → Layer
layer (bool b) = bool_form b
layer (int n) = int_form n
layer (case e k) = case_form e k
layer (text n) = text_form n
layer absent = absent_form
layer (enum_set e) = enum_set_form e
layer (slot s) = slot_form s
layer whole = whole_form
layer (chain e ss) = chain_form e (all_steps ss)
layer (builtin r es) = builtin_form r (all_trees es)
layer (call f es) = call_form f (all_trees es)
layer (access e es) = access_form e (all_trees es)
layer (array es) = array_form (all_trees es)
layer (rows rs) = rows_form (all_rows rs)
layer (set es) = set_form (all_trees es)
layer (comp b e gs) = comp_form b e (all_gens gs)
layer (choice bs e) = if_form (all_branches bs) (if_tree e)
layer (let_in is e) = let_form (all_items is) e
layer (coerce c e) = coerce_form c e

abbrev pub shape_of : Tree → Shape
shape_of (node s t f) = f

abbrev pub place_of : Tree → Span
place_of (node s t f) = s

abbrev pub type_of : Tree → PlainType
type_of (node s t f) = t

-- COERCIONS AT THE ROOT, which count no nesting

-- the tree below them
abbrev mutual
  pub inner_tree : Tree → Tree
  inner_tree (node s t f) = inner_under s t f

  pub inner_under : Span → PlainType → Shape → Tree
  inner_under s t (coerce c e) = inner_tree e
  inner_under s t f = node s t f

-- the coercions, from the innermost on
abbrev mutual
  pub root_coercions : Tree → List PathLink
  root_coercions (node s t f) = coercions_under t f

  pub coercions_under : PlainType → Shape → List PathLink
  coercions_under t (coerce c e) = root_coercions e ++ (c, t) ∷ []
  coercions_under t f = []
