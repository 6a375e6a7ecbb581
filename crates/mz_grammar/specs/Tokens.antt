-- What comes first in a list of tokens.
use Rattle.std.specs.Prelude.{Bool, false, List, [], ◌∷◌, Option, Some, None}
use Rattle.mz_base.specs.declared.fault.Span.{Span}
use Rattle.mz_lexer.specs.declared.token.Token.{Token}
use Rattle.mz_lexer.specs.declared.token.Tok.{Tok}

-- the next token
abbrev pub first_token : List Token → Option Token
first_token [] = None
first_token (t ∷ ts) = Some t

-- what the next token is
abbrev pub tok_at : List Token → Option Tok
tok_at [] = None
tok_at (t ∷ ts) = Some t.tok

-- the tokens after it
abbrev pub behind : List Token → List Token
behind [] = []
behind (t ∷ ts) = ts

-- where it stands
abbrev pub place : List Token → Span
place [] = record { file = 0; line = 0; col = 0; byte = 0 }
place (t ∷ ts) = t.span

-- where it stands, in a file that ends there
abbrev pub place_or : Span → List Token → Span
place_or end [] = end
place_or end (t ∷ ts) = t.span

-- the token that follows: of us, or else next
abbrev pub follows : List Token → Option Tok → Option Tok
follows [] next = next
follows (t ∷ us) next = Some t.tok

-- whether the next token passes a test, and what it tells; there is none at the end
abbrev pub passes : (Tok → Bool) → Option Tok → Bool
passes b None = false
passes b (Some t) = b t

abbrev pub told : {A : Type 0} → (Tok → Option A) → Option Tok → Option A
told find None = None
told find (Some t) = find t
