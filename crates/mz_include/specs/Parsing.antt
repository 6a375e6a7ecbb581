-- What reading a text gives: it is lexed whole, and then parsed.
use Rattle.std.specs.Prelude.{◌≡◌, ℕ, List, map, All}
use Rattle.mz_base.specs.declared.fault.Fault.{Fault}
use Rattle.mz_base.specs.declared.fault.Span.{Span}
use Rattle.mz_lexer.specs.declared.token.Token.{Token}
use Rattle.mz_lexer.specs.Lexemes.{after}
use Rattle.mz_base.specs.Faults.{start_of}
use Rattle.mz_lexer.specs.Lexes.{Lexes, IsFirstFault}
use Rattle.mz_lexer.specs.Views.{lex, HasName}
use Rattle.mz_parser.specs.Model.{IsModel, IsRefused}
use Rattle.mz_include.specs.Naming.{File}

-- where a file ends
abbrev pub end_of : ℕ → List ℕ → Span
end_of turn text = after (start_of turn) text

-- The tokens of a text, whose names are of this table. The turn is the file's number in each place.
pub record AreTokens (names : List (List ℕ)) (turn : ℕ) (text : List ℕ) (tokens : List Token) : Type 0 where
  pub lexes : Lexes turn text (map (lex names) tokens)
  pub known : All (HasName names) tokens

-- the items of a text, and its end
pub record IsParsed (names : List (List ℕ)) (turn : ℕ) (text : List ℕ) (file : File) : Type 0 where
  pub tokens : List Token
  pub lexed : AreTokens names turn text tokens
  pub model : IsModel tokens file.items
  pub end : file.end ≡ end_of turn text

-- the fault of a text: the first of its bytes, or else the first of its tokens
pub data IsUnparsed (names : List (List ℕ)) (turn : ℕ) (text : List ℕ) : Fault → Type 0 where
  by_its_bytes : {f : Fault} → IsFirstFault turn text f → IsUnparsed names turn text f
  by_its_tokens : {f : Fault} (tokens : List Token) → AreTokens names turn text tokens → IsRefused (end_of turn text) tokens f → IsUnparsed names turn text f
