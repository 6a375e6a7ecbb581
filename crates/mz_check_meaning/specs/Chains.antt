-- Operators. A chain of operators is one node for each: its left operand is the node of the operators before it; of `++` its right
-- operand is the node of the operators after it.
use Rattle.std.specs.Prelude.{ℕ, Bool, true, false, List, [], ◌∷◌, ◌++◌, codes, slice_index_or, Ok}
use Rattle.mz_base.specs.declared.fault.Span.{Span}
use Rattle.mz_core.specs.Types.{PlainType, PlainSignature}
use Rattle.mz_core.specs.Tree.{Tree, Step, node, chain, steps, type_of}
use Rattle.mz_tree.specs.declared.expr.UnOp.{UnOp}
use Rattle.mz_tree.specs.declared.expr.UnOp.TheVariants as prefix
use Rattle.mz_tree.specs.declared.expr.BinOp.{BinOp}
use Rattle.mz_tree.specs.declared.expr.PlacedOp.{PlacedOp}
use Rattle.mz_tree.specs.declared.expr.BinOp.TheVariants as op
use Rattle.mz_check_meaning.specs.declared.callee.Callee.{Callee}
use Rattle.mz_check_meaning.specs.declared.callee.Callee.TheVariants as callee
use Rattle.mz_check_meaning.specs.Tests.{Test, ◌>>=◌}
use Rattle.mz_check_meaning.specs.Coerced.{coercions_to, bottom_type}
use Rattle.mz_check_meaning.specs.Calls.{Candidate, row_of}

-- the table's names of operators

unfoldable pub prefix_name : UnOp → List ℕ
prefix_name prefix.Not = codes "not"
prefix_name prefix.Plus = codes "+"
prefix_name prefix.Minus = codes "-"

unfoldable pub operator_name : BinOp → List ℕ
operator_name op.Iff = codes "<->"
operator_name op.Imp = codes "->"
operator_name op.Rimp = codes "<-"
operator_name op.Or = codes "\\/"
operator_name op.Xor = codes "xor"
operator_name op.And = codes "/\\"
operator_name op.Lt = codes "<"
operator_name op.Gt = codes ">"
operator_name op.Le = codes "<="
operator_name op.Ge = codes ">="
operator_name op.Eq = codes "="
operator_name op.Ne = codes "!="
operator_name op.Member = codes "in"
operator_name op.Subset = codes "subset"
operator_name op.Superset = codes "superset"
operator_name op.Union = codes "union"
operator_name op.Diff = codes "diff"
operator_name op.Symdiff = codes "symdiff"
operator_name op.Range = codes ".."
operator_name op.Add = codes "+"
operator_name op.Sub = codes "-"
operator_name op.Mul = codes "*"
operator_name op.Div = codes "div"
operator_name op.Mod = codes "mod"
operator_name op.Intersect = codes "intersect"
operator_name op.Pow = codes "^"
operator_name op.Concat = codes "++"
operator_name op.Default = codes "default"

-- `++` groups to the right, all others to the left
abbrev pub groups_right : BinOp → Bool
groups_right op.Concat = true
groups_right o = false

-- an operator with its second operand, typed, and where that begins
pub record Operand : Type 0 where
  pub operator : PlacedOp
  pub tree : Tree

abbrev pub param_at : ℕ → PlainSignature → PlainType
param_at k s = slice_index_or s.params k bottom_type

-- no operator is a function of the model
abbrev pub row_number : Callee → ℕ
row_number (callee.Row r) = r
row_number (callee.Function f) = f

abbrev pub step_of : Span → PlainType → PlainType → Tree → Candidate → Step
step_of start left right e c = record {
  start = start;
  row = row_number c.callee;
  ty = c.signature.result;
  left = coercions_to left (param_at 0 c.signature);
  right = coercions_to right (param_at 1 c.signature);
  operand = e;
}

-- an operator between operands of these types; the tree is the one after it
unfoldable pub operated : Span → PlacedOp → PlainType → PlainType → Tree → Test Step
operated at o left right e = row_of at (operator_name o.op) (left ∷ right ∷ []) >>= λ c. Ok (step_of o.start left right e c)

-- ---- from the left

pub record Chained : Type 0 where
  pub ty : PlainType
  pub done : List Step

abbrev pub then_step : Chained → Step → Chained
then_step acc s = record { ty = s.ty; done = acc.done ++ s ∷ [] }

-- an operand comes before the operator's own test, and after all that is before it
abbrev pub from_left : Span → Chained → Operand → Test Chained
from_left at acc o = operated at o.operator acc.ty (type_of o.tree) o.tree >>= λ s. Ok (then_step acc s)

-- ---- from the right: all operands are typed before the last operator

-- an operator's node begins where its left operand does, with a parenthesis; the first one's is the chain's
unfoldable pub from_right : Span → Tree → List Operand → Test Chained
from_right at e [] = Ok (record { ty = type_of e; done = [] })
from_right at e (o ∷ os) = do
  rest ← from_right o.operator.start o.tree os
  s ← operated at o.operator (type_of e) rest.ty o.tree
  Ok (record { ty = s.ty; done = s ∷ rest.done })

abbrev pub chain_node : Span → Tree → Chained → Tree
chain_node at e c = node at c.ty (chain e (steps c.done))

-- a chain of `++` with all its operands
unfoldable pub appended : Span → Tree → List Operand → Test Tree
appended at e os = from_right at e os >>= λ c. Ok (chain_node at e c)
