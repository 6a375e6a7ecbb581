-- How the worked examples write typed trees. A place is a column of the one line of the example's text.
use Rattle.std.specs.Prelude.{ℕ, ◌-◌, ℤ, pos, Bool, true, false, List, [], ◌∷◌, Option, Some, None}
use Rattle.mz_base.specs.declared.fault.Span.{Span}
use Rattle.mz_base.specs.declared.kind.Kind.{Kind}
use Rattle.mz_value.specs.Ranges.{Range}
use Rattle.mz_value.specs.Contents.{Content, contents}
use Rattle.mz_value.specs.Contents as values
use Rattle.mz_core.specs.declared.types.Base.{Base}
use Rattle.mz_core.specs.declared.types.Base.TheVariants as base
use Rattle.mz_core.specs.declared.types.Ix.TheVariants as ix
use Rattle.mz_core.specs.declared.types.Coercion.TheVariants as coercion
use Rattle.mz_core.specs.Types.{PlainType}
use Rattle.mz_core.specs.Program.{Function}
use Rattle.mz_core.specs.Tree.{Tree, Decl, DeclaredType, Step, Gen, Item, trees, steps, gens, items, branches, maybe, place_of}
use Rattle.mz_core.specs.Tree as tree
use Rattle.mz_operations.specs.Bounds.{Bound}
use Rattle.mz_operations.specs.Bounds as bounds
use Rattle.mz_meaning.specs.Runs.{Answer, Out, Stopped, fault, start}
use Rattle.mz_meaning.specs.Cells.{Cell, Par, Var, Mode, Bare, Given, Env, no_names}
use Rattle.mz_meaning.specs.Contexts.{Positive}
use Rattle.mz_meaning.specs.Forms.{World}
use Rattle.mz_meaning.specs.Evaluation.{eval}
use Rattle.mz_meaning.specs.RowNumbers as op

abbrev pub col : ℕ → Span
col n = record { file = 0; line = 1; col = n; byte = n - 1 }

-- ---- types

abbrev pub scalar : Bool → Base → PlainType
scalar v b = record { var = v; opt = false; base = b; dims = [] }

abbrev pub int : PlainType
int = scalar false base.Int

abbrev pub var_int : PlainType
var_int = scalar true base.Int

abbrev pub bool : PlainType
bool = scalar false base.Bool

abbrev pub var_bool : PlainType
var_bool = scalar true base.Bool

abbrev pub opt_int : PlainType
opt_int = record { var = false; opt = true; base = base.Int; dims = [] }

abbrev pub var_opt_int : PlainType
var_opt_int = record { var = true; opt = true; base = base.Int; dims = [] }

abbrev pub ints : PlainType
ints = scalar false base.SetInt

abbrev pub var_ints : PlainType
var_ints = scalar true base.SetInt

abbrev pub text : PlainType
text = scalar false base.Text

-- a one-dimensional array of such elements
abbrev pub list_of : PlainType → PlainType
list_of t = record { var = t.var; opt = t.opt; base = t.base; dims = ix.Int ∷ [] }

abbrev pub table_of : PlainType → PlainType
table_of t = record { var = t.var; opt = t.opt; base = t.base; dims = ix.Int ∷ ix.Int ∷ [] }

-- ---- expressions

abbrev pub num : ℕ → ℤ → Tree
num at n = tree.node (col at) int (tree.int n)

abbrev pub lit : ℕ → Bool → Tree
lit at b = tree.node (col at) bool (tree.bool b)

abbrev pub slot : ℕ → PlainType → ℕ → Tree
slot at t s = tree.node (col at) t (tree.slot s)

-- a built-in by its number in the table
abbrev pub fun : ℕ → PlainType → ℕ → List Tree → Tree
fun at t n es = tree.node (col at) t (tree.builtin n (trees es))

abbrev pub call : ℕ → PlainType → ℕ → List Tree → Tree
call at t f es = tree.node (col at) t (tree.call f (trees es))

abbrev pub step : ℕ → PlainType → Tree → Step
step n t e = record { start = place_of e; row = n; ty = t; left = []; right = []; operand = e }

-- the operand is in parentheses, which begin here
abbrev pub opened : ℕ → ℕ → PlainType → Tree → Step
opened at n t e = record { start = col at; row = n; ty = t; left = []; right = []; operand = e }

abbrev pub chain : ℕ → PlainType → Tree → List Step → Tree
chain at t e ss = tree.node (col at) t (tree.chain e (steps ss))

-- one operator, whose node has the first operand's place
abbrev pub bin : ℕ → PlainType → Tree → ℕ → Tree → Tree
bin at t a n b = chain at t a (step n t b ∷ [])

-- a par part where a var one is wanted
abbrev pub to_var : Tree → Tree
to_var (tree.node at t form) = tree.node at (record { var = true; opt = t.opt; base = t.base; dims = t.dims }) (tree.coerce coercion.ToVar (tree.node at t form))

abbrev pub to_opt : Tree → Tree
to_opt (tree.node at t form) = tree.node at (record { var = t.var; opt = true; base = t.base; dims = t.dims }) (tree.coerce coercion.ToOpt (tree.node at t form))

abbrev pub to_int : Tree → Tree
to_int (tree.node at t form) = tree.node at (record { var = t.var; opt = t.opt; base = base.Int; dims = t.dims }) (tree.coerce coercion.BoolToInt (tree.node at t form))

abbrev pub list : ℕ → PlainType → List Tree → Tree
list at t es = tree.node (col at) (list_of t) (tree.array (trees es))

abbrev pub access : ℕ → PlainType → Tree → Tree → Tree
access at t a i = tree.node (col at) t (tree.access a (trees (i ∷ [])))

abbrev pub comp : ℕ → PlainType → Tree → List Gen → Tree
comp at t e gs = tree.node (col at) (list_of t) (tree.comp false e (gens gs))

abbrev pub gen : List ℕ → Tree → Option Tree → Gen
gen ss set cond = record { slots = ss; set = set; cond = cond }

abbrev pub choose : ℕ → PlainType → Tree → Tree → Option Tree → Tree
choose at t c a b = tree.node (col at) t (tree.choice (branches ((c, a) ∷ [])) (maybe b))

abbrev pub let_in : ℕ → PlainType → List Item → Tree → Tree
let_in at t is e = tree.node (col at) t (tree.let_in (items is) e)

-- from one number to another: the node has work 2, and each number 1
abbrev pub range : ℕ → ℤ → ℤ → Tree
range at a b = bin at ints (num at a) op.up_to (num at b)

-- ---- declarations

abbrev pub plain : PlainType → DeclaredType
plain t = record { span = col 0; ty = t; index = []; set = None }

abbrev pub within : PlainType → Tree → DeclaredType
within t e = record { span = col 0; ty = t; index = []; set = Some e }

abbrev pub indexed : PlainType → List (Option Tree) → Option Tree → DeclaredType
indexed t ixs set = record { span = col 0; ty = t; index = ixs; set = set }

-- a type whose first token stands at a column
abbrev pub from : ℕ → DeclaredType → DeclaredType
from at t = record { span = col at; ty = t.ty; index = t.index; set = t.set }

-- a name at a column with its slot, which is its name too
abbrev pub decl : ℕ → ℕ → DeclaredType → Option Tree → Decl
decl at s t v = record { slot = s; name = s; span = col at; ty = t; value = v }

abbrev pub param : ℕ → DeclaredType → Decl
param s t = decl 0 s t None

abbrev pub function : List Decl → DeclaredType → Tree → Function
function ps t e = record { name = 0; span = col 0; params = ps; result = t; body = e }

-- ---- values and cells

abbrev pub i : ℤ → Content
i n = values.int n

abbrev pub b : Bool → Content
b v = values.bool v

abbrev pub set : List Range → Content
set rs = values.set None rs

abbrev pub fromto : ℤ → ℤ → List Range
fromto a c = (a, c) ∷ []

abbrev pub row : ℤ → ℤ → List Content → Content
row a c xs = values.array ((a, c) ∷ []) (contents xs)

abbrev pub between : ℤ → ℤ → Bound
between a c = bounds.number (a, c)

-- a var number, in bounds
abbrev pub var_number : ℤ → ℤ → Option Content → Cell
var_number a c v = Var (bounds.one (between a c)) v

abbrev pub var_set : List Range → List Range → Option Content → Cell
var_set l u v = Var (bounds.one (bounds.sets l u)) v

abbrev pub var_row : ℤ → ℤ → List Bound → Option Content → Cell
var_row a c bs v = Var (bounds.many ((a, c) ∷ []) bs) v

-- ---- runs

abbrev pub world : List Function → ℕ → Mode → Env → World
world fs n m env = record { functions = fs; cases = []; texts = []; budget = n; int_range = pos 1000; top = env; mode = m }

-- an expression, with a budget of 10000 and 600 levels of nesting
abbrev pub run : List Function → Mode → Env → Tree → Answer Cell
run fs m env e = eval (world fs 10000 m env) 600 Positive e env start

-- a par expression without functions and names
abbrev pub result : Tree → Answer Cell
result e = run [] Bare no_names e

abbrev pub gives : Cell → ℕ → Answer Cell
gives c n = Out c (record { work = n; taken = []; weight = 0 })

-- this value, by so much work
abbrev pub is : Content → ℕ → Answer Cell
is x n = gives (Par (Some x)) n

abbrev pub is_undefined : ℕ → Answer Cell
is_undefined n = gives (Par None) n

abbrev pub stops : Kind → ℕ → ℤ → Answer Cell
stops k at n = Stopped (fault k (col at) n)

-- choices that are not asked for
abbrev pub no_choices : ℕ → Content
no_choices k = values.absent

abbrev pub given : Mode
given = Given no_choices

abbrev pub absent : ℕ → PlainType → Tree
absent at t = tree.node (col at) t tree.absent

-- 1 div 0, which has work 4
abbrev pub by_zero : ℕ → Tree
by_zero at = bin at int (num at (pos 1)) op.quotient (num at (pos 0))
