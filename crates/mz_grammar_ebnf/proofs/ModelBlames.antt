-- Where the rules of models refuse a form that is left out, one of the forms that are left out stands there.
use Rattle.std.proofs.Common.{◌≡◌, ◌+◌, ℕ, zero, suc, List, [], ◌∷◌, ◌++◌, refl, sym, ap, subst, true, false, Option, inl, inr, arith, rules}
use Rattle.std.specs.Prelude.{Some, None, ◌||◌}
use Rattle.mz_base.specs.declared.fault.Span.{Span}
use Rattle.mz_base.specs.declared.keyword.Keyword.{Keyword}
use Rattle.mz_base.specs.declared.keyword.Keyword.TheVariants.{KArray, KEnum}
use Rattle.mz_lexer.specs.declared.token.Token.{Token}
use Rattle.mz_lexer.specs.declared.token.Tok.{Tok}
use Rattle.mz_lexer.specs.declared.token.Tok.TheVariants.{Word, Sym, Ident}
use Rattle.mz_lexer.specs.declared.token.Symbol.{Symbol}
use Rattle.mz_lexer.specs.declared.token.Symbol.TheVariants.{SLParen, SLBrack, SRBrack, SLRows, SComma, SColon, SDots, SEq, SConcat}
use Rattle.mz_tree.specs.Tree as pure
use Rattle.mz_tree.specs.Tree.{Name, Tree, Generator}
use Rattle.mz_grammar.specs.Tokens.{place, tok_at, place_or}
use Rattle.mz_grammar.specs.Look.{is_sym, is_word}
use Rattle.mz_grammar.specs.Rules.{left_out}
use Rattle.mz_grammar.specs.RulesPromise.{IsFault}
use Rattle.mz_grammar.specs.declared.level.Level.{Level}
use Rattle.mz_grammar.specs.declared.list.Closing.TheVariants.{Elements}
use Rattle.mz_grammar.specs.Operators.{tighter_level}
use Rattle.mz_grammar.specs.Tests.{is_identifier, begins_base, item_in, opener_in}
use Rattle.mz_grammar.specs.Arguments.{trees_of, generators_of}
use Rattle.mz_grammar.specs.Parts
use Rattle.mz_grammar.specs.Parts.{Operand, name, Place}
use Rattle.mz_grammar.specs.Model.{Ruled, rule, opened_head, plain_call, called, by_expression, item_by, operand_by}
use Rattle.mz_grammar_ebnf.specs.Next.{Next}
use Rattle.mz_grammar_ebnf.specs.ModelSyntax as ebnf
use Rattle.mz_grammar_ebnf.specs.ModelSyntax.{Ending, Derives, list, term}
use Rattle.mz_grammar_ebnf.specs.LeftOut as form
use Rattle.mz_grammar_ebnf.specs.LeftOut.{Within, Each, none_yet, one_more, Reached, at_once, one_access, IsLeftOut}
use Rattle.mz_grammar_ebnf.proofs.Symbols.{same_symbol, same_word}
use Rattle.mz_grammar_ebnf.proofs.Means.{next_symbol, next_word, Says, said}
use Rattle.mz_grammar_ebnf.proofs.Blames as blame
use Rattle.mz_grammar_ebnf.proofs.Blames.{within_next}
use Rattle.mz_grammar_ebnf.proofs.ModelClaims.{Claim}
use Rattle.mz_grammar_ebnf.proofs.ModelMeans.{all_mean, ident, either}

-- What stands before a part

data AfterHead (whole : List Token) : List Token → Type 0 where
  after_head : {k : ℕ} {f : Ending} {hs us ts : List Token} {e : Tree} → Within whole hs → Derives k (term ebnf.head f) hs e us → Reached us ts → AfterHead whole ts

data InAccess (k : ℕ) (whole : List Token) : List Token → Type 0 where
  in_access : {j n : ℕ} {f : Ending} {hs us vs ws ts : List Token} {e : Tree} → Within whole hs → Derives j (term ebnf.head f) hs e us → Reached us vs → Next (Sym SLBrack) vs ws → Each k ebnf.expr n ws ts → InAccess k whole ts

data InArray (k : ℕ) (whole : List Token) : List Token → Type 0 where
  in_array : {n : ℕ} {hs us ts : List Token} → Within whole hs → Next (Sym SLBrack) hs us → Each k ebnf.expr n us ts → InArray k whole ts

data InTypes (k : ℕ) (whole : List Token) (left : ℕ) : List Token → Type 0 where
  in_types : {n : ℕ} {hs us vs ts : List Token} → Within whole hs → Next (Word KArray) hs us → Next (Sym SLBrack) us vs → Each k ebnf.base n vs ts → n + left ≡ 6 → InTypes k whole left ts

data AfterEnum (whole : List Token) : List Token → Type 0 where
  after_enum : {k : ℕ} {f : Ending} {hs us vs ts : List Token} (n : Name) → Within whole hs → Next (Word KEnum) hs us → Next (Ident n) us vs → Derives k (ebnf.anns f) vs tt ts → AfterEnum whole ts

abbrev Before : Place → ℕ → List Token → List Token → Type 0
Before Parts.cases k whole ts = AfterEnum whole ts
Before (Parts.index_types n) k whole ts = InTypes k whole n ts
Before (Parts.accesses x) k whole ts = AfterHead whole ts
Before Parts.indices k whole ts = InAccess k whole ts
Before Parts.more_indices k whole ts = InAccess k whole ts
Before Parts.array_body k whole ts = (hs : List Token) × Within whole hs × Next (Sym SLBrack) hs ts
Before Parts.rows_body k whole ts = (hs : List Token) × Within whole hs × Next (Sym SLRows) hs ts
Before (Parts.elements Elements) k whole ts = InArray k whole ts
Before (Parts.generators Elements) k whole ts = ⊥
Before _ k whole ts = Unit {0}

abbrev Blames : {n : Place} → List Token → ℕ → List Token → Ruled n → Type 0
Blames whole room ts p = blame.Blames Claim Before IsLeftOut whole room ts p

never : {A : Type 0} → false ≡ true → A
never e = absurd (cc)

-- the token is this symbol, or this keyword, or an identifier
stands : {s : Symbol} (ts : List Token) → is_sym s (tok_at ts) ≡ true → form.Stands (Sym s) ts
stands [] e = never e
stands {s = s} (t ∷ ts) e = ap Some (same_symbol s t.tok e)

stands_word : {k : Keyword} (ts : List Token) → is_word k (tok_at ts) ≡ true → form.Stands (Word k) ts
stands_word [] e = never e
stands_word {k = k} (t ∷ ts) e = ap Some (same_word k t.tok e)

identified : (o : Option Tok) → is_identifier o ≡ true → (m : Name) × (o ≡ Some (Ident m))
identified (Some (Ident m)) e = (m, refl)
identified None e = never e
identified _ e = never e

-- The forms

one_index : {k : ℕ} {whole ts us vs : List Token} {e : Tree} → InAccess k whole ts → Derives k ebnf.expr ts e us → Next (Sym SComma) us vs → InAccess k whole vs
one_index (in_access w h r b e) d c = in_access w h r b (one_more e d c)

one_element : {k : ℕ} {whole ts us vs : List Token} {e : Tree} → InArray k whole ts → Derives k ebnf.expr ts e us → Next (Sym SComma) us vs → InArray k whole vs
one_element (in_array w b e) d c = in_array w b (one_more e d c)

one_type : {k : ℕ} {whole ts us vs : List Token} {b : pure.Based} (m : ℕ) → InTypes k whole (suc m) ts → Derives k ebnf.base ts b us → Next (Sym SComma) us vs → InTypes k whole m vs
one_type m (in_types w a b e l) d c = in_types w a b (one_more e d c) (omega (arith, l))

next_access : {k : ℕ} {whole ts us vs ws : List Token} {es : List Tree} → AfterHead whole ts → Next (Sym SLBrack) ts us → Derives k (list SComma ebnf.expr) us es vs → Next (Sym SRBrack) vs ws → AfterHead whole ws
next_access (after_head w h r) b d c = after_head w h (one_access r b d c)

first_index : {k : ℕ} {whole ts us : List Token} → AfterHead whole ts → Next (Sym SLBrack) ts us → InAccess k whole us
first_index (after_head w h r) b = in_access w h r b none_yet

slice : {k : ℕ} {whole ts : List Token} → InAccess k whole ts → is_sym SDots (tok_at ts) ≡ true → IsLeftOut whole ts
slice {ts = ts} (in_access w h r b e) d = form.slice w h r b e (stands ts d)

indexed : {k : ℕ} {whole ts us : List Token} {e : Tree} → InArray k whole ts → Derives k ebnf.expr ts e us → is_sym SColon (tok_at us) ≡ true → IsLeftOut whole us
indexed {us = us} (in_array w b e) d c = form.indexed w b e d (stands us c)

seventh : {k : ℕ} {whole ts : List Token} → InTypes k whole zero ts → begins_base (tok_at ts) ≡ true → IsLeftOut whole ts
seventh {k = k} {whole = whole} {ts = ts} (in_types {n = n} {vs = vs} w a b e l) c = form.seventh w a b (subst (λ n. Each k ebnf.base n vs ts) six e) c
  where
    six : n ≡ 6
    six = omega (arith, l)

more_cases : {k : ℕ} {whole ts us : List Token} {ns : List (Name × Span)} → AfterEnum whole ts → Derives k ebnf.cases ts (Some ns) us → (is_sym SConcat (tok_at us) || is_sym SLParen (tok_at us)) ≡ true → IsLeftOut whole us
more_cases {us = us} (after_enum n w a b d) h e = elim (either (is_sym SConcat (tok_at us)) (is_sym SLParen (tok_at us)) e) [
  | inl c ↦ form.more_cases n w a b d h (inl (stands us c))
  | inr c ↦ form.more_cases n w a b d h (inr (stands us c))
]

named_cases : {whole ts us : List Token} → AfterEnum whole ts → Next (Sym SEq) ts us → is_identifier (tok_at us) ≡ true → IsLeftOut whole us
named_cases {us = us} (after_enum n w a b d) c e = let m = identified (tok_at us) e in form.named_cases n m.0 w a b d c m.1

-- Rules with a form that is left out further on

opened_blames : (t : Tok) → Says (λ o t. (k r : ℕ) (whole ts us : List Token) → Within whole ts → Next t ts us → Blames whole r us (opened_head o (place ts))) (opener_in t) t
opened_blames (Sym SLParen) = λ k r whole ts us w c. (tt, λ x vs h. (search rules, (λ d. form.tuple w c h.0 (stands vs d), tt)))
opened_blames (Sym SLBrack) = λ k r whole ts us w c. ((ts, w, c), search rules)
opened_blames (Sym SLRows) = λ k r whole ts us w c. ((ts, w, c), search rules)
opened_blames _ = search rules

plain_blames : (n : Name) (s : Span) (k : ℕ) (whole ts : List Token) (es : Option (List Tree)) → Blames whole k ts (plain_call n s es)
plain_blames n s k whole ts None = tt
plain_blames n s k whole ts (Some es) = tt

called_blames : (n : Name) (s : Span) (k : ℕ) (whole ts : List Token) (es : Option (List Tree)) (gs : Option (List Generator)) → Blames whole k ts (called n s es gs)
called_blames n s k whole ts es None = (search rules, plain_blames n s k whole ts es)
called_blames n s k whole ts es (Some gs) = (search rules, plain_blames n s k whole ts es)

by_expression_blames : (x : Operand) (k : ℕ) (whole us : List Token) → Blames whole k us (by_expression x)
by_expression_blames (name n s) k whole us = search rules
by_expression_blames _ k whole us = search rules

item_blames : (t : Tok) → Says (λ i t. (k : ℕ) (whole ts us : List Token) → Within whole ts → Next t ts us → Blames whole k us (item_by i (place ts))) (item_in t) t
item_blames (Word KEnum) = λ k whole ts us w c. (λ n vs d. (tt, λ m ws a. (after_enum n w c (ident d) a.1, search rules)), tt)
item_blames _ = search rules depth 12

operand_blames : (l : Level) (k : ℕ) (whole ts : List Token) (o : Option Level) → Blames whole k ts (operand_by {l = l} o)
operand_blames l k whole ts None = search rules
operand_blames l k whole ts (Some m) = search rules

-- The parts

all_blame : (n : Place) (k : ℕ) (whole ts : List Token) → Within whole ts → Before n k whole ts → Blames whole k ts (rule n)
unfolding rule
all_blame Parts.item k whole ts w b = (λ i us c. let t = said _ item_blames c in t.1 k whole ts us w t.2, (search rules, (tt, λ x us h. by_expression_blames x k whole us)))
all_blame Parts.cases k whole ts w b = (λ us c. (λ r e vs d. (tt, λ ns ws h. (λ t. more_cases b (ebnf.some_cases (next_symbol c) (next_symbol d) h.1 h.2) t, tt)), (λ e. named_cases b (next_symbol c) e, tt)), tt)
all_blame Parts.type k whole ts w b = (λ us c. (λ r e vs d. (search rules, (in_types w (next_word c) (next_symbol d) none_yet (omega arith), search rules)), tt), search rules)
all_blame Parts.unmarked k whole ts w b = (λ us c. (λ t. form.opt_set w (next_word c) (stands_word us t), search rules), search rules)
all_blame (Parts.index_types zero) k whole ts w b = (search rules, (λ t. seventh b t, tt))
all_blame (Parts.index_types (suc m)) k whole ts w b = (search rules, (tt, λ x us h. (λ vs c. (one_type m b h.1 (next_symbol c), search rules), search rules)))
all_blame (Parts.operand l) k whole ts w b = operand_blames l k whole ts (tighter_level l)
all_blame (Parts.more_operators l true) k whole ts w b = tt
all_blame Parts.atom k whole ts w b = (tt, λ h us c. (after_head w c.derived at_once, search rules))
all_blame (Parts.accesses x) k whole ts w b = (λ r e us c. (first_index b (next_symbol c), λ es vs i. (next_access b (next_symbol c) i.1 i.2, search rules)), tt)
all_blame Parts.indices k whole ts w b = (λ e. slice b e, (tt, λ x us h. (λ vs c. (one_index b h.0 (next_symbol c), search rules), search rules)))
all_blame Parts.more_indices k whole ts w b = (search rules, (b, search rules))
all_blame Parts.annotations k whole ts w b = (λ us s. (tt, λ h vs c. (after_head (within_next w s) c.derived at_once, search rules)), tt)
all_blame Parts.head k whole ts w b = (search rules, (λ o r g us c. let t = said _ opened_blames c in t.1 k r whole ts us w t.2, tt))
all_blame (Parts.named n s) k whole ts w b = (λ r g us c. (tt, λ xs vs a. called_blames n s (suc r) whole vs (trees_of xs) (generators_of xs)), tt)
all_blame (Parts.elements Elements) k whole ts w b = (search rules, (tt, λ x us h. (λ vs d. (one_element b h.0 (next_symbol d), search rules), (search rules, (λ c. indexed b h.0 c, tt)))))
all_blame Parts.array_body k whole ts w b = (
  search rules,
  (
    tt,
    λ x us h. (
      search rules,
      (λ vs d. (in_array b.1 b.2 (one_more none_yet h.0 (next_symbol d)), search rules), (search rules, (λ c. indexed (in_array b.1 b.2 none_yet) h.0 c, tt))),
    ),
  ),
)
all_blame Parts.rows_body k whole ts w b = (search rules, (λ c. form.planes b.1 b.2 (stands ts c), search rules))
all_blame (Parts.generators Elements) k whole ts w b = absurd b
all_blame _ k whole ts w b = search rules

-- A model

pub left_out_form : (room : ℕ) (tokens : List Token) (end at : Span) → IsFault rule Parts.file room left_out end tokens at → (rest : List Token) × (at ≡ place_or end rest) × IsLeftOut tokens rest
left_out_form room tokens end at f = (f.rest, f.place, subst (λ ts. IsLeftOut ts f.rest) (sym f.split) (blame.blamed Claim Before IsLeftOut rule all_mean all_blame f.named refl (f.prefix ++ f.rest) f.rest refl ([], refl) (all_blame Parts.file room (f.prefix ++ f.rest) (f.prefix ++ f.rest) ([], refl) tt)))
