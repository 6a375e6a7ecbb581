-- What the tokens of a file's bytes are, and where they lie.
use Rattle.std.specs.Prelude.{ℕ, ◌+◌, ◌+ℤ◌, List, [], ◌∷◌, Bool, true, false, ℤ, pos, Result, Ok, Err, if◌then◌else◌, fold}
use Rattle.mz_base.specs.declared.limit.TheConstants.{INTEGER_LIMIT}
use Rattle.mz_base.specs.declared.fault.Span.{Span}
use Rattle.mz_base.specs.declared.fault.Fault.{Fault}
use Rattle.mz_base.specs.declared.kind.Kind.{Kind}
use Rattle.mz_base.specs.declared.kind.Kind.TheVariants.{Bounds}
use Rattle.mz_base.specs.declared.keyword.Keyword.{Keyword}
use Rattle.mz_lexer.specs.declared.token.Symbol.{Symbol}
use Rattle.mz_lexer.specs.declared.token.Symbol.TheVariants.{SLParen, SRParen}
use Rattle.mz_lexer.specs.declared.opening.Opening.{Opening}
use Rattle.mz_lexer.specs.declared.opening.Opening.TheVariants as opening
use Rattle.mz_lexer.specs.Bytes.{is_newline}

-- what a token is: an identifier's and a text's with their bytes
pub data Lexeme : Type 0 where
  word : Keyword → Lexeme
  sym : Symbol → Lexeme
  ident : List ℕ → Lexeme
  int : ℤ → Lexeme
  text : List ℕ → Lexeme
  text_head : List ℕ → Lexeme
  text_mid : List ℕ → Lexeme
  text_tail : List ℕ → Lexeme

-- a token with its place and its length in bytes
pub record Lex : Type 0 where
  pub lexeme : Lexeme
  pub span : Span
  pub len : ℕ

-- whether a `)` begins the next piece of a text, where this is open, innermost first
abbrev pub begins_piece : List Opening → Bool
begins_piece (opening.Text ∷ opens) = true
begins_piece _ = false

-- the place after a byte: a newline ends its line
abbrev pub passed : Span → ℕ → Span
passed at b = if is_newline b
    then record { file = at.file; line = at.line + 1; col = 1; byte = at.byte + 1 }
    else record { file = at.file; line = at.line; col = at.col + 1; byte = at.byte + 1 }

-- the place after some bytes
abbrev pub after : Span → List ℕ → Span
after at bs = fold passed at bs

-- the number of a fault: past the limit for a literal that leaves it
abbrev pub fault_number : Kind → ℤ
fault_number Bounds = INTEGER_LIMIT +ℤ pos 1
fault_number _ = pos 0

abbrev pub fault : Kind → Span → Fault
fault kind at = record { kind = kind; span = at; number = fault_number kind }

abbrev pub closed : List Opening → List Opening
closed [] = []
closed (o ∷ opens) = opens

-- what is open after a token
abbrev pub opens_behind : Lexeme → List Opening → List Opening
opens_behind (text_head _) opens = opening.Text ∷ opens
opens_behind (text_tail _) opens = closed opens
opens_behind (sym SLParen) opens = opening.Paren ∷ opens
opens_behind (sym SRParen) opens = closed opens
opens_behind _ opens = opens

-- what a file's bytes give: all its tokens, or its first fault
abbrev pub Outcome : Type 0
Outcome = Result (List Lex) Fault

abbrev pub with_token : Lex → Outcome → Outcome
with_token t (Ok ts) = Ok (t ∷ ts)
with_token t (Err f) = Err f
