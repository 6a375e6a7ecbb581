-- Before which tokens the parts of a data file may end, and which of them take a token.
use Rattle.std.proofs.Common.{◌≡◌, true, false, Bool, Option}
use Rattle.std.specs.Prelude.{None, pos}
use Rattle.mz_lexer.specs.declared.token.Token.{Token}
use Rattle.mz_lexer.specs.declared.token.Tok.{Tok}
use Rattle.mz_lexer.specs.declared.token.Tok.TheVariants.{Sym, Ident, Int}
use Rattle.mz_lexer.specs.declared.token.Symbol.{Symbol}
use Rattle.mz_lexer.specs.declared.token.Symbol.TheVariants.{SLParen, SComma, SDots, SEq}
use Rattle.mz_grammar.specs.Look.{is_sym}
use Rattle.mz_grammar.proofs.Viable as ways
use Rattle.mz_grammar.specs.Tests.{ends_row}
use Rattle.mz_grammar.specs.Data.{Place, Value, Ruled, rule, rank, file, item, datum, named, index_sets, row, plain, range, set, bounds}

-- no token that goes on a value
abbrev pub EndsValue : Option Tok → Type 0
EndsValue o = (is_sym SDots o ≡ false) × (is_sym SLParen o ≡ false)

-- the tokens before which a part may end, wherever it may end before any; a part that closes itself may before all
abbrev pub MayEndBefore : Place → Option Tok → Type 0
MayEndBefore (file d) o = o ≡ None
MayEndBefore (item d) o = EndsValue o
MayEndBefore (datum d) o = EndsValue o
MayEndBefore (named d n) o = EndsValue o
MayEndBefore (index_sets n) o = is_sym SComma o ≡ false
MayEndBefore row o = EndsValue o × (is_sym SComma o ≡ false) × (ends_row o ≡ true)
MayEndBefore plain o = EndsValue o
MayEndBefore (range v) o = EndsValue o
MayEndBefore set o = EndsValue o
MayEndBefore (bounds free v) o = EndsValue o
MayEndBefore _ o = Unit {0}

-- the parts that take a token at least
abbrev pub takes_token : Place → Bool
takes_token (file d) = false
takes_token (named d n) = false
takes_token (index_sets n) = false
takes_token (range v) = false
takes_token (bounds free v) = false
takes_token _ = true

-- every value is fit, and no part has to be brought to a token
abbrev pub IsUsable : (n : Place) → Value n → Type 0
IsUsable n x = Unit {0}

abbrev pub far : Place → Bool
far n = false

abbrev pub made : Tok → Token
made t = record { tok = t; span = record { file = 0; line = 0; col = 0; byte = 0 }; len = 1 }

abbrev pub sign : Symbol → Token
sign s = made (Sym s)

abbrev pub aim : Token
aim = sign SEq

-- `0` and an identifier
abbrev pub a_number : Token
a_number = made (Int (pos 0))

abbrev pub an_identifier : Token
an_identifier = made (Ident 0)

abbrev pub TakesToken : {n : Place} → Ruled n → Type 0
TakesToken p = ways.TakesToken rule MayEndBefore takes_token IsUsable far aim p

abbrev pub CanComplete : {n : Place} → Ruled n → Type 0
CanComplete p = ways.CanComplete rule MayEndBefore takes_token IsUsable far aim p

abbrev pub Completion : {n : Place} → Ruled n → Type 0
Completion p = ways.Completion rule p

-- what has to hold of each part
abbrev pub Facts : Place → Type 0
Facts n = ways.Facts rule MayEndBefore takes_token IsUsable far aim rank n
