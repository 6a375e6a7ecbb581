-- Which level of operators goes on after an operand.
use Rattle.std.specs.Prelude.{ℕ, Option, Some, None, if◌then◌else◌, ◌&&◌, nat_lt, nat_le}
use Rattle.mz_lexer.specs.declared.token.Tok.{Tok}
use Rattle.mz_tree.specs.declared.expr.BinOp.{BinOp}
use Rattle.mz_grammar.specs.declared.level.Level.{Level}
use Rattle.mz_grammar.specs.Operators.{operator_of, level_number}

abbrev pub if_within : Level → ℕ → Option (Level × BinOp) → Option Level
if_within l done None = None
if_within l done (Some o) = if nat_le (level_number l) (level_number o.0) && nat_lt (level_number o.0) done then Some o.0 else None

-- the level of the operator that the token is, where that is l or tighter, with a number below done
abbrev pub next_level : Level → ℕ → Option Tok → Option Level
next_level l done tok = if_within l done (operator_of tok)
