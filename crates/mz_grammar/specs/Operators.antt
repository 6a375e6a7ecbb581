-- The operators of expressions.
use Rattle.std.specs.Prelude.{ℕ, Bool, true, false, Option, Some, None, if◌then◌else◌, nat_eq}
use Rattle.mz_lexer.specs.declared.token.Tok.{Tok}
use Rattle.mz_lexer.specs.declared.token.Tok.TheVariants.{Word, Sym}
use Rattle.mz_base.specs.declared.keyword.Keyword.TheVariants.{KNot, KXor, KIn, KSubset, KSuperset, KUnion, KDiff, KSymdiff, KDiv, KMod, KIntersect}
use Rattle.mz_lexer.specs.declared.token.Symbol.TheVariants.{SIff, SImp, SRimp, SOr, SAnd, SLt, SGt, SLe, SGe, SEq, SEqEq, SNe, SDots, SPlus, SMinus, SStar, SCaret, SConcat}
use Rattle.mz_grammar.specs.Tokens.{told}
use Rattle.mz_tree.specs.declared.expr.UnOp.{UnOp}
use Rattle.mz_tree.specs.declared.expr.UnOp.TheVariants as prefix
use Rattle.mz_tree.specs.declared.expr.BinOp.{BinOp}
use Rattle.mz_tree.specs.declared.expr.BinOp.TheVariants as op
use Rattle.mz_grammar.specs.declared.level.Level.{Level}
use Rattle.mz_grammar.specs.declared.level.Level.TheVariants as level

-- the prefix operators
abbrev pub prefix_in : Tok → Option UnOp
prefix_in (Word KNot) = Some prefix.Not
prefix_in (Sym SPlus) = Some prefix.Plus
prefix_in (Sym SMinus) = Some prefix.Minus
prefix_in _ = None

abbrev pub prefix_of : Option Tok → Option UnOp
prefix_of o = told prefix_in o

-- the binary operators, each with its level
abbrev pub operator_in : Tok → Option (Level × BinOp)
operator_in (Sym SIff) = Some (level.Iff, op.Iff)
operator_in (Sym SImp) = Some (level.Imp, op.Imp)
operator_in (Sym SRimp) = Some (level.Imp, op.Rimp)
operator_in (Sym SOr) = Some (level.Or, op.Or)
operator_in (Word KXor) = Some (level.Or, op.Xor)
operator_in (Sym SAnd) = Some (level.And, op.And)
operator_in (Sym SLt) = Some (level.Compare, op.Lt)
operator_in (Sym SGt) = Some (level.Compare, op.Gt)
operator_in (Sym SLe) = Some (level.Compare, op.Le)
operator_in (Sym SGe) = Some (level.Compare, op.Ge)
operator_in (Sym SEq) = Some (level.Compare, op.Eq)
operator_in (Sym SEqEq) = Some (level.Compare, op.Eq)
operator_in (Sym SNe) = Some (level.Compare, op.Ne)
operator_in (Word KIn) = Some (level.Member, op.Member)
operator_in (Word KSubset) = Some (level.Member, op.Subset)
operator_in (Word KSuperset) = Some (level.Member, op.Superset)
operator_in (Word KUnion) = Some (level.Union, op.Union)
operator_in (Word KDiff) = Some (level.Union, op.Diff)
operator_in (Word KSymdiff) = Some (level.Union, op.Symdiff)
operator_in (Sym SDots) = Some (level.Range, op.Range)
operator_in (Sym SPlus) = Some (level.Sum, op.Add)
operator_in (Sym SMinus) = Some (level.Sum, op.Sub)
operator_in (Sym SStar) = Some (level.Product, op.Mul)
operator_in (Word KDiv) = Some (level.Product, op.Div)
operator_in (Word KMod) = Some (level.Product, op.Mod)
operator_in (Word KIntersect) = Some (level.Product, op.Intersect)
operator_in (Sym SCaret) = Some (level.Power, op.Pow)
operator_in (Sym SConcat) = Some (level.Concat, op.Concat)
operator_in _ = None

abbrev pub operator_of : Option Tok → Option (Level × BinOp)
operator_of o = told operator_in o

-- the number of a level, from 1, the loosest
abbrev pub level_number : Level → ℕ
level_number level.Iff = 1
level_number level.Imp = 2
level_number level.Or = 3
level_number level.And = 4
level_number level.Compare = 5
level_number level.Member = 6
level_number level.Union = 7
level_number level.Range = 8
level_number level.Sum = 9
level_number level.Product = 10
level_number level.Power = 11
level_number level.Concat = 12

abbrev pub if_level : Level → Option (Level × BinOp) → Option BinOp
if_level l None = None
if_level l (Some o) = if nat_eq (level_number o.0) (level_number l) then Some o.1 else None

-- the operators of this level
abbrev pub binary_in : Level → Tok → Option BinOp
binary_in l tok = if_level l (operator_in tok)

abbrev pub binary_of : Level → Option Tok → Option BinOp
binary_of l o = told (binary_in l) o

-- the levels whose operators don't associate
abbrev pub is_nonassociative : Level → Bool
is_nonassociative level.Compare = true
is_nonassociative level.Member = true
is_nonassociative level.Range = true
is_nonassociative _ = false

-- the next tighter level, if there is one
abbrev pub tighter_level : Level → Option Level
tighter_level level.Iff = Some level.Imp
tighter_level level.Imp = Some level.Or
tighter_level level.Or = Some level.And
tighter_level level.And = Some level.Compare
tighter_level level.Compare = Some level.Member
tighter_level level.Member = Some level.Union
tighter_level level.Union = Some level.Range
tighter_level level.Range = Some level.Sum
tighter_level level.Sum = Some level.Product
tighter_level level.Product = Some level.Power
tighter_level level.Power = Some level.Concat
tighter_level level.Concat = None
