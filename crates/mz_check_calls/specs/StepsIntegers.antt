-- Mirror of src/integers.rt; private clauses only. Operators between two integers: the row of each, which needs no search among the rows.
use Rattle.std.specs.Prelude.{◌≡◌, ℕ, Bool, true, false, Option, Some, None, [], ◌∷◌, Ok, IfSome}
use Rattle.std.specs.Option.{option_and_then, option_map}
use Rattle.mz_base.specs.declared.fault.Span.{Span}
use Rattle.mz_core.specs.declared.types.Base.{Base}
use Rattle.mz_core.specs.declared.types.Base.TheVariants as base
use Rattle.mz_core.specs.Types.{PlainType}
use Rattle.mz_builtin.specs.Signatures.{number_of}
use Rattle.mz_tree.specs.declared.expr.BinOp.{BinOp}
use Rattle.mz_tree.specs.declared.expr.BinOp.TheVariants as op
use Rattle.mz_check_meaning.specs.declared.callee.Callee.TheVariants as callee
use Rattle.mz_check_meaning.specs.Calls.{Candidate, row_of}
use Rattle.mz_check_meaning.specs.Chains.{operator_name}

-- the type of a scalar of this base, var or par
abbrev pub scalar_of : Bool → Base → PlainType
scalar_of v b = record { var = v; opt = false; base = b; dims = [] }

abbrev pub integer : Bool → PlainType
integer v = scalar_of v base.Int

-- the base of what an operator between integers makes, of which one is var or none is; a range has par ends
unfoldable pub integer_base : Bool → BinOp → Option Base
integer_base v op.Eq = Some base.Bool
integer_base v op.Ne = Some base.Bool
integer_base v op.Lt = Some base.Bool
integer_base v op.Le = Some base.Bool
integer_base v op.Gt = Some base.Bool
integer_base v op.Ge = Some base.Bool
integer_base true op.Range = None
integer_base false op.Range = Some base.SetInt
integer_base v op.Add = Some base.Int
integer_base v op.Sub = Some base.Int
integer_base v op.Mul = Some base.Int
integer_base v op.Div = Some base.Int
integer_base v op.Mod = Some base.Int
integer_base v o = None

-- that base with the operator's row, which is the first one of its name
abbrev pub integer_row : Bool → BinOp → Option (ℕ × Base)
integer_row v o = option_and_then (λ b. option_map (λ n. (n, b)) (number_of (operator_name o))) (integer_base v o)

abbrev pub integer_candidate : Bool → ℕ × Base → Candidate
integer_candidate v r = record {
  callee = callee.Row r.0;
  signature = record { params = integer v ∷ integer v ∷ []; result = scalar_of v r.1 };
}

-- what is found of an operator between operands of these types is its row, which reads them as var or par
abbrev pub IsRowOf : BinOp → PlainType → PlainType → Bool → Option (ℕ × Base) → Type 0
IsRowOf o left right v found = IfSome found (λ r. (at : Span) → row_of at (operator_name o) (left ∷ right ∷ []) ≡ Ok (integer_candidate v r))
