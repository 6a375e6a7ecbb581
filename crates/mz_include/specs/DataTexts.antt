-- What reading a text as a data file gives: it is lexed whole, and then parsed.
use Rattle.std.specs.Prelude.{ℕ, List}
use Rattle.mz_base.specs.declared.fault.Fault.{Fault}
use Rattle.mz_lexer.specs.declared.token.Token.{Token}
use Rattle.mz_lexer.specs.Lexes.{IsFirstFault}
use Rattle.mz_tree.specs.Data.{Given}
use Rattle.mz_dzn.specs.DataFile.{IsDataFile, IsRefusedData}
use Rattle.mz_include.specs.Parsing.{AreTokens, end_of}

-- the items of a text that is a data file; the turn is the file's number in each place
pub record IsDataText (names : List (List ℕ)) (turn : ℕ) (text : List ℕ) (items : List Given) : Type 0 where
  pub tokens : List Token
  pub lexed : AreTokens names turn text tokens
  pub file : IsDataFile names tokens items

-- the fault of a text that is none: the first of its bytes, or else the first of its tokens
pub data IsUnfitText (names : List (List ℕ)) (turn : ℕ) (text : List ℕ) : Fault → Type 0 where
  by_its_bytes : {f : Fault} → IsFirstFault turn text f → IsUnfitText names turn text f
  by_its_tokens : {f : Fault} (tokens : List Token) → AreTokens names turn text tokens → IsRefusedData names (end_of turn text) tokens f → IsUnfitText names turn text f
