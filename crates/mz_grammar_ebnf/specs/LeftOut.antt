-- The forms of models that are left out of the language, each at its token.
use Rattle.std.specs.Prelude.{◌≡◌, ℕ, zero, suc, true, List, ◌++◌, Some, ◌⊎◌}
use Rattle.mz_base.specs.declared.fault.Span.{Span}
use Rattle.mz_base.specs.declared.keyword.Keyword.TheVariants.{KArray, KEnum, KOpt, KSet}
use Rattle.mz_lexer.specs.declared.token.Token.{Token}
use Rattle.mz_lexer.specs.declared.token.Tok.{Tok}
use Rattle.mz_lexer.specs.declared.token.Tok.TheVariants.{Word, Sym, Ident}
use Rattle.mz_lexer.specs.declared.token.Symbol.TheVariants.{SLParen, SLBrack, SRBrack, SLRows, SBar, SComma, SColon, SDots, SEq, SConcat}
use Rattle.mz_tree.specs.Tree.{Name, Tree}
use Rattle.mz_grammar.specs.Tokens.{tok_at}
use Rattle.mz_grammar.specs.Tests.{begins_base}
use Rattle.mz_grammar_ebnf.specs.Next.{Next}
use Rattle.mz_grammar_ebnf.specs.ModelSyntax.{Ending, Phrase, Meaning, Derives, list, expr, base, term, head, anns, cases}

-- ts stands in whole, up to its end
abbrev pub Within : List Token → List Token → Type 0
Within whole ts = (before : List Token) × (whole ≡ before ++ ts)

-- it begins with this token
abbrev pub Stands : Tok → List Token → Type 0
Stands k ts = tok_at ts ≡ Some k

-- { p "," }, this many times
pub data Each (k : ℕ) (p : Phrase) : ℕ → List Token → List Token → Type 0 where
  none_yet : {ts : List Token} → Each k p zero ts ts
  one_more : {n : ℕ} {ts us vs ws : List Token} {x : Meaning p} → Each k p n ts us → Derives k p us x vs → Next (Sym SComma) vs ws → Each k p (suc n) ts ws

-- { "[" expr { "," expr } "]" }
pub data Reached : List Token → List Token → Type 0 where
  at_once : {ts : List Token} → Reached ts ts
  one_access : {k : ℕ} {ts us vs ws xs : List Token} {es : List Tree} → Reached ts us → Next (Sym SLBrack) us vs → Derives k (list SComma expr) vs es ws → Next (Sym SRBrack) ws xs → Reached ts xs

-- In whole a form begins that is left out, and ts begins with the token at which it is refused.
pub data IsLeftOut (whole : List Token) : List Token → Type 0 where
  -- "(" expr, and a ","
  tuple : {k : ℕ} {hs us ts : List Token} {e : Tree} → Within whole hs → Next (Sym SLParen) hs us → Derives k expr us e ts → Stands (Sym SComma) ts → IsLeftOut whole ts
  -- "[" { expr "," } expr, and a ":"
  indexed : {k n : ℕ} {hs us vs ts : List Token} {e : Tree} → Within whole hs → Next (Sym SLBrack) hs us → Each k expr n us vs → Derives k expr vs e ts → Stands (Sym SColon) ts → IsLeftOut whole ts
  -- "[|", and a "|"
  planes : {hs ts : List Token} → Within whole hs → Next (Sym SLRows) hs ts → Stands (Sym SBar) ts → IsLeftOut whole ts
  -- head { "[" expr { "," expr } "]" } "[" { expr "," }, and a ".."
  slice : {j k n : ℕ} {f : Ending} {hs us vs ws ts : List Token} {e : Tree} → Within whole hs → Derives j (term head f) hs e us → Reached us vs → Next (Sym SLBrack) vs ws → Each k expr n ws ts → Stands (Sym SDots) ts → IsLeftOut whole ts
  -- "enum" IDENT anns "=" "{" [ IDENT { "," IDENT } ] "}", and a "++" or a "("
  more_cases : {j k : ℕ} {f : Ending} {hs us vs ws ts : List Token} {ns : List (Name × Span)} (n : Name) → Within whole hs → Next (Word KEnum) hs us → Next (Ident n) us vs → Derives j (anns f) vs tt ws → Derives k cases ws (Some ns) ts → Stands (Sym SConcat) ts ⊎ Stands (Sym SLParen) ts → IsLeftOut whole ts
  -- "enum" IDENT anns "=", and an IDENT
  named_cases : {j : ℕ} {f : Ending} {hs us vs ws ts : List Token} (n m : Name) → Within whole hs → Next (Word KEnum) hs us → Next (Ident n) us vs → Derives j (anns f) vs tt ws → Next (Sym SEq) ws ts → Stands (Ident m) ts → IsLeftOut whole ts
  -- "array" "[" and six index types, each with its ",", and what may begin a seventh
  seventh : {k : ℕ} {hs us vs ts : List Token} → Within whole hs → Next (Word KArray) hs us → Next (Sym SLBrack) us vs → Each k base 6 vs ts → begins_base (tok_at ts) ≡ true → IsLeftOut whole ts
  -- "opt", and a "set"
  opt_set : {hs ts : List Token} → Within whole hs → Next (Word KOpt) hs ts → Stands (Word KSet) ts → IsLeftOut whole ts
