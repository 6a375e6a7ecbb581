-- One token, and what follows it.
use Rattle.std.specs.Prelude.{◌≡◌, List, ◌∷◌}
use Rattle.mz_lexer.specs.declared.token.Token.{Token}
use Rattle.mz_lexer.specs.declared.token.Tok.{Tok}

-- The tokens begin with this one, and the others follow it.
pub data Next (k : Tok) : List Token → List Token → Type 0 where
  begins : {t : Token} {us : List Token} → t.tok ≡ k → Next k (t ∷ us) us
