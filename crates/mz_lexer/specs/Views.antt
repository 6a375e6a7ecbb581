-- What a proof sees of tokens: each name as its text.
use Rattle.std.specs.Prelude.{ℕ, ◌<◌, ◌≤◌, List, length}
use Rattle.mz_base.specs.Names.{text_of}
use Rattle.mz_lexer.specs.declared.token.Tok.{Tok}
use Rattle.mz_lexer.specs.declared.token.Tok.TheVariants as tok
use Rattle.mz_lexer.specs.declared.token.Token.{Token}
use Rattle.mz_lexer.specs.declared.found.Prefix.{Prefix as CodePrefix}
use Rattle.mz_lexer.specs.declared.found.Prefix.TheVariants as shown
use Rattle.mz_lexer.specs.Lexemes.{Lexeme, word, sym, ident, int, text, text_head, text_mid, text_tail, Lex}
use Rattle.mz_lexer.specs.Steps.{Prefix, gap, token, refusal}

-- what a token is, where its name is one of this table
abbrev pub lexeme : List (List ℕ) → Tok → Lexeme
lexeme names (tok.Word k) = word k
lexeme names (tok.Sym s) = sym s
lexeme names (tok.Ident n) = ident (text_of names n)
lexeme names (tok.Int z) = int z
lexeme names (tok.Text n) = text (text_of names n)
lexeme names (tok.TextHead n) = text_head (text_of names n)
lexeme names (tok.TextMid n) = text_mid (text_of names n)
lexeme names (tok.TextTail n) = text_tail (text_of names n)

-- a token with its place and its length
abbrev pub lex : List (List ℕ) → Token → Lex
lex names t = record { lexeme = lexeme names t.tok; span = t.span; len = t.len }

-- the token's name, where it has one, is one of this table
abbrev pub IsNamed : List (List ℕ) → Tok → Type 0
IsNamed names (tok.Word k) = Unit {0}
IsNamed names (tok.Sym s) = Unit {0}
IsNamed names (tok.Ident n) = n < length names
IsNamed names (tok.Int z) = Unit {0}
IsNamed names (tok.Text n) = n < length names
IsNamed names (tok.TextHead n) = n < length names
IsNamed names (tok.TextMid n) = n < length names
IsNamed names (tok.TextTail n) = n < length names

abbrev pub HasName : List (List ℕ) → Token → Type 0
HasName names t = IsNamed names t.tok

-- what comes first
abbrev pub prefix : List (List ℕ) → CodePrefix → Prefix
prefix names (shown.Gap n) = gap n
prefix names (shown.Token t n) = token (lexeme names t) n
prefix names (shown.Refusal kind n) = refusal kind n

-- the name of the next token, if it has one, is one of this table
abbrev pub IsPrefixNamed : List (List ℕ) → CodePrefix → Type 0
IsPrefixNamed names (shown.Gap n) = Unit {0}
IsPrefixNamed names (shown.Token t n) = IsNamed names t
IsPrefixNamed names (shown.Refusal kind n) = Unit {0}

-- what this many bytes begin with has a length, and isn't longer
abbrev pub Fits : ℕ → CodePrefix → Type 0
Fits all (shown.Gap n) = (0 < n) × (n ≤ all)
Fits all (shown.Token t n) = (0 < n) × (n ≤ all)
Fits all (shown.Refusal kind n) = n ≤ all

-- a symbol of this many bytes has these as its second and third one, 0 where there is none
abbrev pub IsSpelled : ℕ → ℕ → ℕ → Type 0
IsSpelled second third n = (0 < n) × (n ≤ 3) × (2 ≤ n → 0 < second) × (3 ≤ n → 0 < third)
