-- The parts of a model's file, and what each is read to.
use Rattle.std.specs.Prelude.{ℕ, Bool, List, [], ◌∷◌, Option}
use Rattle.mz_base.specs.declared.fault.Span.{Span}
use Rattle.mz_tree.specs.declared.expr.UnOp.{UnOp}
use Rattle.mz_tree.specs.declared.expr.BinOp.{BinOp}
use Rattle.mz_tree.specs.declared.expr.BinOp.TheVariants as op
use Rattle.mz_tree.specs.declared.expr.PlacedOp.{PlacedOp}
use Rattle.mz_tree.specs.Tree.{Name, Tree, Maybe, Generator, Let, Declaration, Written, Based, Part, Shape, node, ident, chain, links, op_before}
use Rattle.mz_tree.specs.Items.{GoalTree, ItemTree}
use Rattle.mz_grammar.specs.declared.level.Level.{Level}
use Rattle.mz_grammar.specs.declared.list.Closing.{Closing}
use Rattle.mz_grammar.specs.declared.list.Generators.{Generators}
use Rattle.mz_grammar.specs.Tests.{ItemKind, Leaf, Opener}

-- An expression. A name alone and a name in a set may become generators of a call.
-- The place is that of the first token, a parenthesis too.
pub data Operand : Type 0 where
  name : Name → Span → Operand
  -- a name with its place, and a set with its own
  member : Name → Span → Span → Tree → Operand
  other : Span → Tree → Operand

abbrev pub at_of : Operand → Span
at_of (name n s) = s
at_of (member n s p e) = s
at_of (other s e) = s

abbrev pub tree_of : Operand → Tree
tree_of (name n s) = node s (ident n)
tree_of (member n s p e) = node s (chain (node s (ident n)) (links ((op_before op.Member p, e) ∷ [])))
tree_of (other s e) = e

-- an operator with an operand
abbrev pub link_of : BinOp → Operand → PlacedOp × Tree
link_of o x = (op_before o (at_of x), tree_of x)

-- a name with one operator after it
abbrev pub related_by : Name → Span → BinOp → Span → Tree → Operand
related_by n s op.Member p e = member n s p e
related_by n s o p e = other s (node s (chain (node s (ident n)) (links ((op_before o p, e) ∷ []))))

abbrev pub related : Name → Span → PlacedOp → Tree → Operand
related n s o e = related_by n s o.op o.start e

-- an operand with the operators of one level after it
abbrev pub chained : Operand → List (PlacedOp × Tree) → Operand
chained x [] = x
chained (name n s) (l ∷ []) = related n s l.0 l.1
chained x (l ∷ ls) = other (at_of x) (node (at_of x) (chain (tree_of x) (links (l ∷ ls))))

-- an argument of a call: an expression, one that a `where` makes a generator, or a generator after such a one
pub data Argument : Type 0 where
  unguarded : Operand → Argument
  guarded : Operand → Tree → Argument
  strict : Generator → Argument

-- the parts of a file
pub data Place : Type 0 where
  file : Place
  more_items : Place
  item : Place
  goal : Place
  cases : Place
  case_names : Place
  params : Place
  param_list : Place
  param : Place
  declaration : Place
  declared : Written → Place
  value : Place
  type : Place
  element : Place
  unmarked : Place
  base : Place
  index_types : ℕ → Place
  expr : Place
  level : Level → Place
  operand : Level → Place
  operators : Level → Place
  more_operators : Level → Bool → Place
  unit : Place
  atom : Place
  accesses : Operand → Place
  indices : Place
  more_indices : Place
  annotations : Place
  marks : Place
  head : Place
  named : Name → Span → Place
  arguments : Generators → Place
  text_rest : Place
  elements : Closing → Place
  array_body : Place
  set_body : Place
  rows_body : Place
  more_rows : Place
  row : Place
  cells : Place
  generator : Place
  more_names : Place
  filter : Place
  generators : Closing → Place
  branch : Place
  branches : Place
  let_items : Place
  let_item : Place

abbrev pub Value : Place → Type 0
Value file = List ItemTree
Value more_items = List ItemTree
Value item = ItemTree
Value goal = GoalTree
Value cases = Option (List (Name × Span))
Value case_names = List (Name × Span)
Value params = List Declaration
Value param_list = List Declaration
Value param = Declaration
Value declaration = Declaration
Value (declared t) = Declaration
Value value = Maybe
Value type = Written
Value element = Written
Value unmarked = Written
Value base = Span × Based
Value (index_types n) = List Based
Value expr = Tree
Value (level l) = Operand
Value (operand l) = Operand
Value (operators l) = List (PlacedOp × Tree)
Value (more_operators l done) = List (PlacedOp × Tree)
Value unit = Operand
Value atom = Operand
Value (accesses x) = Operand
Value indices = List Tree
Value more_indices = List Tree
Value annotations = Bool
Value marks = Unit {0}
Value head = Operand
Value (named n s) = Operand
Value (arguments t) = List Argument
Value text_rest = List Part
Value (elements c) = List Tree
Value array_body = Shape
Value set_body = Shape
Value rows_body = List (List Tree)
Value more_rows = List (List Tree)
Value row = List Tree
Value cells = List Tree
Value generator = Generator
Value more_names = List (Name × Span)
Value filter = Maybe
Value (generators c) = List Generator
Value branch = Tree × Tree
Value branches = List (Tree × Tree) × Maybe
Value let_items = List Let
Value let_item = Let

-- The classes of tokens that tell something, and what they tell.
pub data Class : Type 0 where
  name_class : Class
  prefix_class : Class
  operator_class : Class
  item_class : Class
  leaf_class : Class
  opener_class : Class

abbrev pub Told : Class → Type 0
Told name_class = Name
Told prefix_class = UnOp
Told operator_class = BinOp
Told item_class = ItemKind
Told leaf_class = Leaf
Told opener_class = Opener
