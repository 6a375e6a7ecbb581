-- Data files by the lines of their EBNF: a constructor for each alternative. It looks at no token ahead.
--
-- `Derives k p ts x us` says that ts begins with a p whose value is x, that us is what follows, and that at most k tokens
-- are open at once in it. Each premise is a symbol of the alternative, from left to right.
use Rattle.std.specs.Prelude.{◌≡◌, ℕ, suc, pos, neg_ℤ, true, false, List, [], ◌∷◌, Some, length}
use Rattle.mz_base.specs.declared.keyword.Keyword.TheVariants.{KTrue, KFalse}
use Rattle.mz_lexer.specs.declared.token.Token.{Token}
use Rattle.mz_lexer.specs.declared.token.Tok.TheVariants.{Word, Sym, Ident, Int}
use Rattle.mz_lexer.specs.declared.token.Symbol.{Symbol}
use Rattle.mz_lexer.specs.declared.token.Symbol.TheVariants.{SLParen, SRParen, SLBrack, SRBrack, SLBrace, SRBrace, SLRows, SRRows, SBar, SComma, SSemi, SDots, SEq, SMinus, SAbsent}
use Rattle.mz_tree.specs.Tree.{Name}
use Rattle.mz_tree.specs.Data as pure
use Rattle.mz_tree.specs.Data.{Given, values, lines}
use Rattle.mz_grammar.specs.Tokens.{place}
use Rattle.mz_grammar.specs.Data.{Dimensions}
use Rattle.mz_grammar_ebnf.specs.Next.{Next}

-- what the EBNF names, and its lists: x { s x } [ s ] and [ x { s x } [ s ] ]
pub data Phrase : Type 0 where
  one : Phrase
  set : Phrase
  plain : Phrase
  datum : Dimensions → Phrase
  item : Dimensions → Phrase
  list : Symbol → Phrase → Phrase
  optional : Symbol → Phrase → Phrase

abbrev pub Meaning : Phrase → Type 0
Meaning one = pure.Value
Meaning set = pure.Value
Meaning plain = pure.Value
Meaning (datum d) = pure.Value
Meaning (item d) = Given
Meaning (list s p) = List (Meaning p)
Meaning (optional s p) = List (Meaning p)

pub data Derives : ℕ → (p : Phrase) → List Token → Meaning p → List Token → Type 0 where
  -- one = "true" | "false" | [ "-" ] INT | IDENT
  a_true : {k : ℕ} {ts us : List Token} → Next (Word KTrue) ts us → Derives k one ts (pure.bool true) us
  a_false : {k : ℕ} {ts us : List Token} → Next (Word KFalse) ts us → Derives k one ts (pure.bool false) us
  a_number : {k : ℕ} {ts us : List Token} (z : _) → Next (Int z) ts us → Derives k one ts (pure.int z) us
  a_negative : {k : ℕ} {ts us vs : List Token} (n : ℕ) → Next (Sym SMinus) ts us → Next (Int (pos n)) us vs → Derives k one ts (pure.int (neg_ℤ (pos n))) vs
  a_name : {k : ℕ} {ts us : List Token} (n : Name) → Next (Ident n) ts us → Derives k one ts (pure.ident n) us
  -- set = "{" [ one { "," one } ] "}" | one ".." one | IDENT
  braces : {k : ℕ} {ts us vs ws : List Token} {xs : List pure.Value} → Next (Sym SLBrace) ts us → Derives k (optional SComma one) us xs vs → Next (Sym SRBrace) vs ws → Derives (suc k) set ts (pure.set (values xs)) ws
  range : {k : ℕ} {ts us vs ws : List Token} {x y : pure.Value} → Derives k one ts x us → Next (Sym SDots) us vs → Derives k one vs y ws → Derives k set ts (pure.range x y) ws
  set_name : {k : ℕ} {ts us : List Token} (n : Name) → Next (Ident n) ts us → Derives k set ts (pure.ident n) us
  -- plain = one | set | "<>"
  by_one : {k : ℕ} {ts us : List Token} {x : pure.Value} → Derives k one ts x us → Derives k plain ts x us
  by_set : {k : ℕ} {ts us : List Token} {x : pure.Value} → Derives k set ts x us → Derives k plain ts x us
  absent : {k : ℕ} {ts us : List Token} → Next (Sym SAbsent) ts us → Derives k plain ts pure.absent us
  -- datum = plain | "[" [ plain { "," plain } ] "]"
  --       | "[|" [ drow { "|" drow } [ "|" ] ] "|]", where drow = plain { "," plain }
  --       | ARRAYND "(" set { "," set } "," "[" [ plain { "," plain } ] "]" ")", with as many sets as dimensions
  by_plain : {d : Dimensions} {k : ℕ} {ts us : List Token} {x : pure.Value} → Derives k plain ts x us → Derives k (datum d) ts x us
  array : {d : Dimensions} {k : ℕ} {ts us vs ws : List Token} {xs : List pure.Value} → Next (Sym SLBrack) ts us → Derives k (optional SComma plain) us xs vs → Next (Sym SRBrack) vs ws → Derives (suc k) (datum d) ts (pure.array (values xs)) ws
  rows : {d : Dimensions} {k : ℕ} {ts us vs ws : List Token} {ls : List (List pure.Value)} → Next (Sym SLRows) ts us → Derives k (optional SBar (list SComma plain)) us ls vs → Next (Sym SRRows) vs ws → Derives (suc k) (datum d) ts (pure.rows (lines ls)) ws
  array_nd : {d : Dimensions} {k : ℕ} {ts us vs ws xs ys zs : List Token} {hs bs : List Token} {ss es : List pure.Value} (n : Name) → Next (Ident n) ts us → d n ≡ Some (length ss)
      → Next (Sym SLParen) us vs → Derives (suc k) (list SComma set) vs ss ws → Next (Sym SComma) ws xs
      → Next (Sym SLBrack) xs ys → Derives k (optional SComma plain) ys es zs → Next (Sym SRBrack) zs hs → Next (Sym SRParen) hs bs
      → Derives (suc (suc k)) (datum d) ts (pure.array_nd (values ss) (values es)) bs
  -- IDENT "=" datum
  assigns : {d : Dimensions} {k : ℕ} {ts us vs ws : List Token} {x : pure.Value} (n : Name) → Next (Ident n) ts us → Next (Sym SEq) us vs → Derives k (datum d) vs x ws
      → Derives k (item d) ts (record { name = n; span = place ts; at = place vs; value = x }) ws
  -- x { s x } [ s ], and [ x { s x } [ s ] ]
  last : {s : Symbol} {p : Phrase} {k : ℕ} {ts us : List Token} {x : Meaning p} → Derives k p ts x us → Derives k (list s p) ts (x ∷ []) us
  trailing : {s : Symbol} {p : Phrase} {k : ℕ} {ts us vs : List Token} {x : Meaning p} → Derives k p ts x us → Next (Sym s) us vs → Derives k (list s p) ts (x ∷ []) vs
  more : {s : Symbol} {p : Phrase} {k : ℕ} {ts us vs ws : List Token} {x : Meaning p} {xs : List (Meaning p)} → Derives k p ts x us → Next (Sym s) us vs → Derives k (list s p) vs xs ws → Derives k (list s p) ts (x ∷ xs) ws
  none : {s : Symbol} {p : Phrase} {k : ℕ} {ts : List Token} → Derives k (optional s p) ts [] ts
  some : {s : Symbol} {p : Phrase} {k : ℕ} {ts us : List Token} {xs : List (Meaning p)} → Derives k (list s p) ts xs us → Derives k (optional s p) ts xs us

-- data = [ IDENT "=" datum { ";" IDENT "=" datum } [ ";" ] ], which is all that there is
abbrev pub DerivesFile : Dimensions → ℕ → List Token → List Given → Type 0
DerivesFile d k ts items = Derives k (optional SSemi (item d)) ts items []
