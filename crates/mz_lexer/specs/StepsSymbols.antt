-- Mirror of src/symbol.rt; private clauses only. The longest symbol that comes first.
use Rattle.std.specs.Prelude.{ℕ, List, codes, Option, Some, None, if◌then◌else◌}
use Rattle.mz_lexer.specs.declared.token.Symbol.{Symbol}
use Rattle.mz_lexer.specs.declared.token.Symbol.TheVariants.{SLParen, SRParen, SLBrack, SRBrack, SLBrace, SRBrace, SLRows, SRRows, SBar, SComma, SSemi, SColon, SColons, SDots, SEq, SEqEq, SNe, SLt, SLe, SGt, SGe, SRimp, SImp, SIff, SOr, SAnd, SPlus, SMinus, SStar, SCaret, SConcat, SAbsent}
use Rattle.mz_lexer.specs.Bytes.{is_byte}

-- a symbol of one byte or of two, with its length
abbrev pub one_byte : Symbol → Option (Symbol × ℕ)
one_byte s = Some (s, 1)

abbrev pub two_bytes : Symbol → Option (Symbol × ℕ)
two_bytes s = Some (s, 2)

unfoldable pub less_at : ℕ → ℕ → Option (Symbol × ℕ)
less_at b c =
    if is_byte (codes "=") b then two_bytes SLe else
    if is_byte (codes "-") b then (if is_byte (codes ">") c then Some (SIff, 3) else two_bytes SRimp) else
    if is_byte (codes ">") b then two_bytes SAbsent else one_byte SLt

-- the symbol of two bytes where the second byte is this one, else another answer
abbrev pub longer : ℕ → List ℕ → Symbol → Option (Symbol × ℕ) → Option (Symbol × ℕ)
longer b second s other = if is_byte second b then two_bytes s else other

-- the longest symbol that begins with these three bytes, with its length
unfoldable pub symbol_at : ℕ → ℕ → ℕ → Option (Symbol × ℕ)
symbol_at a b c =
    if is_byte (codes "(") a then one_byte SLParen else
    if is_byte (codes ")") a then one_byte SRParen else
    if is_byte (codes "[") a then longer b (codes "|") SLRows (one_byte SLBrack) else
    if is_byte (codes "]") a then one_byte SRBrack else
    if is_byte (codes "{") a then one_byte SLBrace else
    if is_byte (codes "}") a then one_byte SRBrace else
    if is_byte (codes "|") a then longer b (codes "]") SRRows (one_byte SBar) else
    if is_byte (codes ",") a then one_byte SComma else
    if is_byte (codes ";") a then one_byte SSemi else
    if is_byte (codes ":") a then longer b (codes ":") SColons (one_byte SColon) else
    if is_byte (codes ".") a then longer b (codes ".") SDots None else
    if is_byte (codes "=") a then longer b (codes "=") SEqEq (one_byte SEq) else
    if is_byte (codes "!") a then longer b (codes "=") SNe None else
    if is_byte (codes "<") a then less_at b c else
    if is_byte (codes ">") a then longer b (codes "=") SGe (one_byte SGt) else
    if is_byte (codes "-") a then longer b (codes ">") SImp (one_byte SMinus) else
    if is_byte (codes "\\") a then longer b (codes "/") SOr None else
    if is_byte (codes "/") a then longer b (codes "\\") SAnd None else
    if is_byte (codes "+") a then longer b (codes "+") SConcat (one_byte SPlus) else
    if is_byte (codes "*") a then one_byte SStar else
    if is_byte (codes "^") a then one_byte SCaret else None
