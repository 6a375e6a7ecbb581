-- How the worked examples are written: what a small model's names stand for, types, values, and what comes of their typing.
use Rattle.std.specs.Prelude.{ℕ, pos, true, false, List, [], ◌∷◌, Ok, Err}
use Rattle.mz_base.specs.declared.fault.Span.{Span}
use Rattle.mz_base.specs.declared.kind.Kind.{Kind}
use Rattle.mz_base.specs.declared.kind.Kind.TheVariants.{DataForm}
use Rattle.mz_core.specs.declared.types.Base.{Base}
use Rattle.mz_core.specs.declared.types.Base.TheVariants as base
use Rattle.mz_core.specs.declared.types.Ix.{Ix}
use Rattle.mz_core.specs.declared.types.Ix.TheVariants as ix
use Rattle.mz_core.specs.Types.{PlainType}
use Rattle.mz_core.specs.Tree.{Tree, type_of}
use Rattle.mz_tree.specs.Tree.{Name}
use Rattle.mz_tree.specs.Data as pure
use Rattle.mz_tree.specs.Data.{Value}
use Rattle.mz_check_meaning.specs.declared.meaning.Meaning.TheVariants as meaning
use Rattle.mz_check_meaning.specs.Tests.{Test}
use Rattle.mz_check_data.specs.Datum.{Meanings, typed_value}

-- ---- the model: enum E = {A, B}; enum F = {C}; int: k; function int: f()

abbrev pub E : Name
E = 0

abbrev pub A : Name
A = 1

abbrev pub B : Name
B = 2

abbrev pub F : Name
F = 3

abbrev pub C : Name
C = 4

-- a declaration
abbrev pub k : Name
k = 5

-- a function without parameters
abbrev pub f : Name
f = 6

-- declared by nothing
abbrev pub other : Name
other = 7

abbrev pub model_names : Meanings
model_names =
    (E, meaning.Enum 0) ∷ (A, meaning.Case 0 (pos 1)) ∷ (B, meaning.Case 0 (pos 2)) ∷ (F, meaning.Enum 1) ∷ (C, meaning.Case 1 (pos 1))
    ∷ (k, meaning.Decl 0) ∷ (f, meaning.Function 0)
    ∷ []

-- ---- types: int, bool, E, and the sets of int and of E

abbrev of_base : Base → PlainType
of_base x = record { var = false; opt = false; base = x; dims = [] }

abbrev pub n : PlainType
n = of_base base.Int

abbrev pub b : PlainType
b = of_base base.Bool

abbrev pub e : PlainType
e = of_base (base.Enum 0)

abbrev pub sn : PlainType
sn = of_base base.SetInt

abbrev pub se : PlainType
se = of_base (base.SetEnum 0)

abbrev pub va : PlainType → PlainType
va t = record t { var = true }

abbrev pub op : PlainType → PlainType
op t = record t { opt = true }

-- an array with these index types: int, or E
abbrev pub ar : List Ix → PlainType → PlainType
ar ds t = record t { dims = ds }

abbrev pub by_int : Ix
by_int = ix.Int

abbrev pub by_e : Ix
by_e = ix.Enum 0

-- of one and of two dimensions, with the index int
abbrev pub li : PlainType → PlainType
li t = ar (by_int ∷ []) t

abbrev pub square : PlainType → PlainType
square t = ar (by_int ∷ by_int ∷ []) t

-- ---- values

abbrev pub num : ℕ → Value
num z = pure.int (pos z)

abbrev pub yes : Value
yes = pure.bool true

abbrev pub name : Name → Value
name x = pure.ident x

abbrev pub gone : Value
gone = pure.absent

abbrev pub range : Value → Value → Value
range v w = pure.range v w

abbrev pub set : List Value → Value
set vs = pure.set (pure.values vs)

abbrev pub list : List Value → Value
list vs = pure.array (pure.values vs)

abbrev pub rows : List (List Value) → Value
rows ls = pure.rows (pure.lines ls)

-- `array1d(.., [..])` and its like
abbrev pub shaped : List Value → List Value → Value
shaped ss vs = pure.array_nd (pure.values ss) (pure.values vs)

-- ---- what comes of them

abbrev pub col : ℕ → Span
col c = record { file = 1; line = 1; col = c; byte = c }

pub data Outcome : Type 0 where
  fits : PlainType → Outcome
  fails : Kind → ℕ → Outcome

pub record Example : Type 0 where
  pub ty : PlainType
  pub value : Value
  pub outcome : Outcome

-- the value fits the declared type, and its typed tree has this type
abbrev pub gives : PlainType → Value → PlainType → Example
gives t v u = record { ty = t; value = v; outcome = fits u }

-- it has the declared type
abbrev pub fit : PlainType → Value → Example
fit t v = gives t v t

-- DataForm at the value, which stands at the fifth column
abbrev pub misfit : PlainType → Value → Example
misfit t v = record { ty = t; value = v; outcome = fails DataForm 5 }

abbrev outcome_of : Test Tree → Outcome
outcome_of (Ok x) = fits (type_of x)
outcome_of (Err q) = fails q.kind q.span.col

abbrev pub typed : PlainType → Value → Test Tree
typed t v = typed_value model_names t (record { name = k; span = col 1; at = col 5; value = v })

abbrev pub typing : Example → Outcome
typing x = outcome_of (typed x.ty x.value)

abbrev pub expected : Example → Outcome
expected x = x.outcome
