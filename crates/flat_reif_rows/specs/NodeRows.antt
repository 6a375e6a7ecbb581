-- The rows that give nodes from their children's arguments.
use Rattle.std.specs.Prelude.{◌≡◌, ℤ, pos, List, [], ◌∷◌, Bool, true, false, Option, Some, None}
use Rattle.mz_interval.specs.Ends.{Ends}
use Rattle.mz_operations.specs.Monotone.{MayDivide}
use Rattle.mz_arena.specs.declared.node.NodeKind.{NodeKind}
use Rattle.mz_arena.specs.declared.node.NodeKind.TheVariants as kinds
use Rattle.fz_program.specs.declared.row_name.RowName.{RowName}
use Rattle.fz_program.specs.declared.row_name.RowName.TheVariants as rows
use Rattle.fz_program.specs.Arguments.{Plain, int, Argument, one, array, plain_of}

-- the row of one input that gives a node of a kind
abbrev pub row_of_one : NodeKind → Option RowName
row_of_one kinds.Not = Some rows.BoolNot
row_of_one kinds.ToInt = Some rows.BoolToInt
row_of_one kinds.Abs = Some rows.IntAbs
row_of_one kinds.Card = Some rows.SetCard
row_of_one _ = None

-- the row that gives a node of a kind from two children
abbrev pub row_of_two : NodeKind → Option RowName
row_of_two kinds.Eq = Some rows.IntEqReif
row_of_two kinds.Ne = Some rows.IntNeReif
row_of_two kinds.Le = Some rows.IntLeReif
row_of_two kinds.Lt = Some rows.IntLtReif
row_of_two kinds.And = Some rows.ArrayBoolAnd
row_of_two kinds.Or = Some rows.ArrayBoolOr
row_of_two kinds.Iff = Some rows.BoolEqReif
row_of_two kinds.Member = Some rows.SetInReif
row_of_two kinds.Mul = Some rows.IntTimes
row_of_two kinds.Div = Some rows.IntDiv
row_of_two kinds.Mod = Some rows.IntMod
row_of_two kinds.Union = Some rows.SetUnion
row_of_two kinds.Intersect = Some rows.SetIntersect
row_of_two kinds.Diff = Some rows.SetDiff
row_of_two kinds.Symdiff = Some rows.SetSymdiff
row_of_two kinds.SetEq = Some rows.SetEqReif
row_of_two kinds.Subset = Some rows.SetSubsetReif
row_of_two _ = None

-- the row takes both children in one array
abbrev pub is_joined : NodeKind → Bool
is_joined kinds.And = true
is_joined kinds.Or = true
is_joined _ = false

abbrev pub inputs_by : Bool → Argument → Argument → List Argument
inputs_by true x y = array (plain_of x ∷ plain_of y ∷ []) ∷ []
inputs_by false x y = x ∷ y ∷ []

-- the inputs of the row of two children
abbrev pub inputs_of_two : NodeKind → Argument → Argument → List Argument
inputs_of_two k x y = inputs_by (is_joined k) x y

-- the inputs of the sum of two: once each, and the constant 0
abbrev pub sum_inputs : Argument → Argument → List Argument
sum_inputs x y = array (int (pos 1) ∷ int (pos 1) ∷ []) ∷ array (plain_of x ∷ plain_of y ∷ []) ∷ one (int (pos 0)) ∷ []

-- the inputs of a number times an integer, and the constant 0
abbrev pub multiple_inputs : ℤ → Argument → List Argument
multiple_inputs n x = array (int n ∷ []) ∷ array (plain_of x ∷ []) ∷ one (int (pos 0)) ∷ []

-- Where a node of this kind divides, a divisor in these bounds may be other than 0.
abbrev pub HasDivisor : NodeKind → Ends → Type 0
HasDivisor kinds.Div f = MayDivide f
HasDivisor kinds.Mod f = MayDivide f
HasDivisor _ f = Unit {0}

-- a product has this number for a child's argument
pub record IsFactor (k : NodeKind) (p : Plain) (c : ℤ) : Type 0 where
  pub product : k ≡ kinds.Mul
  pub number : p ≡ int c
