-- Short names of types for the worked examples.
use Rattle.std.proofs.Common.{ℕ, true, false, List, [], ◌∷◌}
use Rattle.mz_core.specs.declared.types.Base.{Base}
use Rattle.mz_core.specs.declared.types.Base.TheVariants as base
use Rattle.mz_core.specs.declared.types.Ix.{Ix}
use Rattle.mz_core.specs.declared.types.Ix.TheVariants as ix
use Rattle.mz_core.specs.Types.{PlainType}
use Rattle.mz_builtin.proofs.Calls.{Taken, call}

abbrev scalar : Base → PlainType
scalar x = record { var = false; opt = false; base = x; dims = [] }

-- bool, int, and two enums
abbrev pub b : PlainType
b = scalar base.Bool

abbrev pub n : PlainType
n = scalar base.Int

abbrev pub e : PlainType
e = scalar (base.Enum 3)

abbrev pub f : PlainType
f = scalar (base.Enum 5)

-- sets of integers, and of the enums
abbrev pub sn : PlainType
sn = scalar base.SetInt

abbrev pub se : PlainType
se = scalar (base.SetEnum 3)

abbrev pub sf : PlainType
sf = scalar (base.SetEnum 5)

-- `{}`, a text, an element of `[]`, and `<>`
abbrev pub empty : PlainType
empty = scalar base.SetBottom

abbrev pub tx : PlainType
tx = scalar base.Text

abbrev pub bot : PlainType
bot = scalar base.Bottom

abbrev pub absent : PlainType
absent = record { var = false; opt = true; base = base.Bottom; dims = [] }

-- index types
abbrev pub i : Ix
i = ix.Int

abbrev pub ie : Ix
ie = ix.Enum 3

abbrev pub jf : Ix
jf = ix.Enum 5

abbrev pub va : PlainType → PlainType
va t = record t { var = true }

abbrev pub op : PlainType → PlainType
op t = record t { opt = true }

-- an array with these index types, and one of one dimension
abbrev pub by : List Ix → PlainType → PlainType
by dims t = record t { dims = dims }

abbrev pub li : PlainType → PlainType
li t = by (ix.Int ∷ []) t

pub record Example : Type 0 where
  pub name : List ℕ
  pub args : List PlainType
  pub taken : Taken

abbrev pub example : List ℕ → List PlainType → Taken → Example
example name args taken = record { name = name; args = args; taken = taken }

abbrev pub called : Example → Taken
called x = call x.name x.args

abbrev pub expected : Example → Taken
expected x = x.taken
