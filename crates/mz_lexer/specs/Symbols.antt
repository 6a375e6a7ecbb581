-- The symbols and how they are spelled.
use Rattle.std.specs.Prelude.{ℕ, List, codes}
use Rattle.mz_lexer.specs.declared.token.Symbol.{Symbol}
use Rattle.mz_lexer.specs.declared.token.Symbol.TheVariants.{SLParen, SRParen, SLBrack, SRBrack, SLBrace, SRBrace, SLRows, SRRows, SBar, SComma, SSemi, SColon, SColons, SDots, SEq, SEqEq, SNe, SLt, SLe, SGt, SGe, SRimp, SImp, SIff, SOr, SAnd, SPlus, SMinus, SStar, SCaret, SConcat, SAbsent}

-- how a symbol is spelled
abbrev pub symbol_text : Symbol → List ℕ
symbol_text SLParen = codes "("
symbol_text SRParen = codes ")"
symbol_text SLBrack = codes "["
symbol_text SRBrack = codes "]"
symbol_text SLBrace = codes "{"
symbol_text SRBrace = codes "}"
symbol_text SLRows = codes "[|"
symbol_text SRRows = codes "|]"
symbol_text SBar = codes "|"
symbol_text SComma = codes ","
symbol_text SSemi = codes ";"
symbol_text SColon = codes ":"
symbol_text SColons = codes "::"
symbol_text SDots = codes ".."
symbol_text SEq = codes "="
symbol_text SEqEq = codes "=="
symbol_text SNe = codes "!="
symbol_text SLt = codes "<"
symbol_text SLe = codes "<="
symbol_text SGt = codes ">"
symbol_text SGe = codes ">="
symbol_text SRimp = codes "<-"
symbol_text SImp = codes "->"
symbol_text SIff = codes "<->"
symbol_text SOr = codes "\\/"
symbol_text SAnd = codes "/\\"
symbol_text SPlus = codes "+"
symbol_text SMinus = codes "-"
symbol_text SStar = codes "*"
symbol_text SCaret = codes "^"
symbol_text SConcat = codes "++"
symbol_text SAbsent = codes "<>"
