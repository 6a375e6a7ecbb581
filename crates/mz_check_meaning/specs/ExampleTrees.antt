-- How the worked examples are written: a small model, trees whose parts have their places on one line, and what comes of their typing.
use Rattle.std.specs.Prelude.{ℕ, pos, Bool, true, false, List, [], ◌∷◌, map, Option, None, Ok, Err, codes}
use Rattle.mz_base.specs.declared.fault.Span.{Span}
use Rattle.mz_base.specs.declared.kind.Kind.{Kind}
use Rattle.mz_core.specs.declared.types.Base.{Base}
use Rattle.mz_core.specs.declared.types.Base.TheVariants as base
use Rattle.mz_core.specs.declared.types.Ix.TheVariants as ix
use Rattle.mz_core.specs.Types.{PlainType}
use Rattle.mz_core.specs.Tree as typed
use Rattle.mz_core.specs.Tree.{Decl, DeclaredType}
use Rattle.mz_tree.specs.declared.expr.UnOp.{UnOp}
use Rattle.mz_tree.specs.declared.expr.BinOp.{BinOp}
use Rattle.mz_tree.specs.declared.expr.PlacedOp.{PlacedOp}
use Rattle.mz_tree.specs.Tree as source
use Rattle.mz_tree.specs.Tree.{Tree, Name, Part, Generator, Let, Written, Based}
use Rattle.mz_check_meaning.specs.declared.meaning.Meaning.TheVariants as meaning
use Rattle.mz_check_meaning.specs.Tests.{Test}
use Rattle.mz_check_meaning.specs.Models.{Model, Heading, outermost, in_output}
use Rattle.mz_check_meaning.specs.Typing.{check}

-- ---- types: bool, int, an enum, sets, and what makes more of them

abbrev scalar : Base → PlainType
scalar x = record { var = false; opt = false; base = x; dims = [] }

abbrev pub b : PlainType
b = scalar base.Bool

abbrev pub n : PlainType
n = scalar base.Int

abbrev pub e : PlainType
e = scalar (base.Enum 0)

abbrev pub sn : PlainType
sn = scalar base.SetInt

abbrev pub se : PlainType
se = scalar (base.SetEnum 0)

-- `{}`, a text, an element of `[]`, and `<>`
abbrev pub none : PlainType
none = scalar base.SetBottom

abbrev pub tx : PlainType
tx = scalar base.Text

abbrev pub bot : PlainType
bot = scalar base.Bottom

abbrev pub va : PlainType → PlainType
va t = record t { var = true }

abbrev pub op : PlainType → PlainType
op t = record t { opt = true }

abbrev pub li : PlainType → PlainType
li t = record t { dims = ix.Int ∷ [] }

-- an array indexed by the enum, and one of two dimensions
abbrev pub by : PlainType → PlainType
by t = record t { dims = ix.Enum 0 ∷ [] }

abbrev pub square : PlainType → PlainType
square t = record t { dims = ix.Int ∷ ix.Int ∷ [] }

-- ---- places: one line, by its columns

abbrev pub col : ℕ → Span
col k = record { file = 0; line = 1; col = k; byte = k }

-- ---- the model
--
-- enum E = {A, B};
-- int: n; var int: x; bool: c; var bool: q; array[int] of int: a; array[int] of var int: y; array[E] of int: w;
-- array[int, int] of int: z; set of int: s; var set of int: t; var opt int: o; opt int: r; var E: v;
-- function int: f(int: ..); function var int: g(var int: ..);
-- predicate p(var int: .., int: ..); predicate p(int: .., var int: ..);
-- function var int: h(); function bool: all_different(bool: ..); function int: count(array[int] of int: .., int: ..)

abbrev texts : List (List ℕ)
texts =
    codes "E" ∷ codes "A" ∷ codes "B" ∷ codes "n" ∷ codes "x" ∷ codes "c" ∷ codes "q" ∷ codes "a" ∷ codes "y" ∷ codes "w"
    -- from 10 on
    ∷ codes "z" ∷ codes "s" ∷ codes "t" ∷ codes "o" ∷ codes "r" ∷ codes "v" ∷ codes "f" ∷ codes "g" ∷ codes "p" ∷ codes "h"
    -- from 20 on
    ∷ codes "all_different" ∷ codes "count" ∷ codes "i" ∷ codes "j" ∷ codes "sum" ∷ codes "forall" ∷ codes "length" ∷ codes "pow" ∷ codes "show" ∷ codes "assert"
    -- from 30 on
    ∷ codes "deopt" ∷ codes "card" ∷ codes "increasing" ∷ codes "array1d" ∷ codes "max"
    ∷ []

abbrev pub E : Name
E = 0

abbrev pub A : Name
A = 1

abbrev pub B : Name
B = 2

abbrev par : ℕ → PlainType → ℕ × Test DeclaredType
par d t = (d, Ok (record { span = col 90; ty = t; index = []; set = None }))

abbrev param : PlainType → Decl
param t = record { slot = 13; name = 22; span = col 90; ty = record { span = col 90; ty = t; index = []; set = None }; value = None }

abbrev params : List PlainType → List Decl
params [] = []
params (t ∷ ts) = param t ∷ params ts

abbrev known : ℕ → List PlainType → PlainType → ℕ × Test Heading
known f ts t = (f, Ok (record { params = params ts; result = record { span = col 90; ty = t; index = []; set = None } }))

abbrev pub model : Model
model = record {
  texts = texts;
  names =
      (E, meaning.Enum 0) ∷ (A, meaning.Case 0 (pos 1)) ∷ (B, meaning.Case 0 (pos 2))
      ∷ (3, meaning.Decl 0) ∷ (4, meaning.Decl 1) ∷ (5, meaning.Decl 2) ∷ (6, meaning.Decl 3) ∷ (7, meaning.Decl 4) ∷ (8, meaning.Decl 5) ∷ (9, meaning.Decl 6)
      ∷ (10, meaning.Decl 7) ∷ (11, meaning.Decl 8) ∷ (12, meaning.Decl 9) ∷ (13, meaning.Decl 10) ∷ (14, meaning.Decl 11) ∷ (15, meaning.Decl 12)
      ∷ (19, meaning.Function 4)
      ∷ [];
  functions = (16, 0) ∷ (17, 1) ∷ (18, 2) ∷ (18, 3) ∷ (20, 5) ∷ (21, 6) ∷ [];
  function_names = 16 ∷ 17 ∷ 18 ∷ 18 ∷ 19 ∷ 20 ∷ 21 ∷ [];
  count = 13;
  types =
      par 0 n ∷ par 1 (va n) ∷ par 2 b ∷ par 3 (va b) ∷ par 4 (li n) ∷ par 5 (li (va n)) ∷ par 6 (by n)
      ∷ par 7 (square n) ∷ par 8 sn ∷ par 9 (va sn) ∷ par 10 (va (op n)) ∷ par 11 (op n) ∷ par 12 (va e)
      ∷ [];
  headings =
      known 0 (n ∷ []) n ∷ known 1 (va n ∷ []) (va n) ∷ known 2 (va n ∷ n ∷ []) (va b) ∷ known 3 (n ∷ va n ∷ []) (va b)
      ∷ known 4 [] (va n) ∷ known 5 (b ∷ []) b ∷ known 6 (li n ∷ n ∷ []) n
      ∷ [];
}

-- ---- trees

abbrev pub num : ℕ → Tree
num k = source.node (col k) (source.int (pos 1))

abbrev pub truth : ℕ → Tree
truth k = source.node (col k) (source.bool true)

abbrev pub gone : ℕ → Tree
gone k = source.node (col k) source.absent

abbrev pub words : ℕ → Tree
words k = source.node (col k) (source.text 0)

abbrev pub whole : ℕ → Tree
whole k = source.node (col k) source.whole

abbrev pub name : Name → ℕ → Tree
name m k = source.node (col k) (source.ident m)

abbrev pub call : Name → ℕ → List Tree → Tree
call m k es = source.node (col k) (source.call m (source.trees es))

abbrev pub prefix : UnOp → ℕ → Tree → Tree
prefix o k x = source.node (col k) (source.unary o x)

abbrev begin : Tree → Span
begin (source.node s f) = s

-- an operator with an operand without parentheses
abbrev linked : BinOp × Tree → PlacedOp × Tree
linked l = (source.op_before l.0 (begin l.1), l.1)

-- one operator, and more of one level
abbrev pub bin : ℕ → Tree → BinOp → Tree → Tree
bin k x o y = source.node (col k) (source.chain x (source.links (linked (o, y) ∷ [])))

abbrev pub chain : ℕ → Tree → List (BinOp × Tree) → Tree
chain k x os = source.node (col k) (source.chain x (source.links (map linked os)))

-- with operands that begin with a parenthesis, where that is
abbrev pub opened : ℕ → Tree → List (PlacedOp × Tree) → Tree
opened k x os = source.node (col k) (source.chain x (source.links os))

abbrev pub array : ℕ → List Tree → Tree
array k es = source.node (col k) (source.array (source.trees es))

abbrev pub rows : ℕ → List (List Tree) → Tree
rows k rs = source.node (col k) (source.rows (source.rows_of rs))

abbrev pub set : ℕ → List Tree → Tree
set k es = source.node (col k) (source.set (source.trees es))

abbrev pub access : ℕ → Tree → List Tree → Tree
access k x es = source.node (col k) (source.access x (source.trees es))

abbrev pub choose : ℕ → List (Tree × Tree) → Option Tree → Tree
choose k bs x = source.node (col k) (source.choice (source.branches bs) (source.maybe x))

abbrev pub gen : Name → ℕ → Tree → Option Tree → Generator
gen m k x c = source.generator ((m, col k) ∷ []) x (source.maybe c)

abbrev pub list_of : ℕ → Tree → List Generator → Tree
list_of k x gs = source.node (col k) (source.array_comp x (source.gens gs))

abbrev pub set_of : ℕ → Tree → List Generator → Tree
set_of k x gs = source.node (col k) (source.set_comp x (source.gens gs))

abbrev pub gen_call : Name → ℕ → List Generator → Tree → Tree
gen_call m k gs x = source.node (col k) (source.gen_call m (source.gens gs) x)

abbrev pub interp : ℕ → List Part → Tree
interp k ps = source.node (col k) (source.interp (source.parts ps))

abbrev pub written : ℕ → Bool → Based → Written
written k var x = source.written (col k) source.no_array var false false x

abbrev pub written_set : ℕ → Bool → Based → Written
written_set k var x = source.written (col k) source.no_array var false true x

abbrev pub written_array : ℕ → List Based → Based → Written
written_array k xs x = source.written (col k) (source.array_of (source.bases xs)) false false false x

abbrev pub declares : Written → Name → ℕ → Option Tree → Let
declares t m k v = source.declared (source.declaration t m (col k) (source.maybe v))

abbrev pub let_in : ℕ → List Let → Tree → Tree
let_in k ls x = source.node (col k) (source.let_in (source.lets ls) x)

-- ---- what comes of them

pub data Outcome : Type 0 where
  typed_to : PlainType → Outcome
  fails : Kind → ℕ → Outcome

abbrev outcome : Test typed.Tree → Outcome
outcome (Ok x) = typed_to (typed.type_of x)
outcome (Err f) = fails f.kind f.span.col

pub record Example : Type 0 where
  pub tree : Tree
  pub outcome : Outcome

-- an expression's type, and its fault with the column of its place
abbrev pub has : Tree → PlainType → Example
has x t = record { tree = x; outcome = typed_to t }

abbrev pub stops : Tree → Kind → ℕ → Example
stops x k c = record { tree = x; outcome = fails k c }

abbrev pub typing : Example → Outcome
typing x = outcome (check model x.tree (outermost model))

-- in an output item
abbrev pub typing_shown : Example → Outcome
typing_shown x = outcome (check model x.tree (in_output model))

abbrev pub expected : Example → Outcome
expected x = x.outcome
