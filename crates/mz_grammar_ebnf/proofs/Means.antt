-- What the rules take is what a relation on lists of tokens says of their parts, where each rule claims no more.
use Rattle.std.proofs.Common.{◌≡◌, ℕ, suc, List, ◌∷◌, ◌++◌, refl, sym, ap, ◌∙◌, subst, append_assoc, true, false, Bool, Option}
use Rattle.std.specs.Prelude.{Some, None}
use Rattle.mz_base.specs.declared.keyword.Keyword.{Keyword}
use Rattle.mz_lexer.specs.declared.token.Token.{Token}
use Rattle.mz_lexer.specs.declared.token.Tok.{Tok}
use Rattle.mz_lexer.specs.declared.token.Tok.TheVariants.{Word, Sym}
use Rattle.mz_lexer.specs.declared.token.Symbol.{Symbol}
use Rattle.mz_grammar.specs.Tokens.{place, tok_at, follows, passes, told}
use Rattle.mz_grammar.specs.Look.{is_symbol, is_keyword}
use Rattle.mz_grammar.specs.Rules.{Opens, keeps, opens, Rule, give, refuse, leave_out, when, named, ahead, leave, part, kept, opened, Runs, gives, over, skips, finds, lacks, sees, misses, leaves, parts}
use Rattle.mz_grammar.proofs.Laws.{follow}
use Rattle.mz_grammar_ebnf.specs.Next.{Next, begins}
use Rattle.mz_grammar_ebnf.proofs.Symbols.{same_symbol, same_word}

-- a token that passes a test, and what follows it; and a token that tells something
pub data Passes (b : Tok → Bool) : List Token → List Token → Type 0 where
  passing : {t : Token} {us : List Token} → b t.tok ≡ true → Passes b (t ∷ us) us

pub data Tells {A : Type 0} (find : Tok → Option A) (a : A) : List Token → List Token → Type 0 where
  telling : {t : Token} {us : List Token} → find t.tok ≡ Some a → Tells find a (t ∷ us) us

-- what holds with the room that a token leaves
abbrev pub Leaving : Opens → ℕ → (ℕ → Type 0) → Type 0
Leaving keeps room P = P room
Leaving opens room P = (r : ℕ) → room ≡ suc r → P r

-- what is met there, where rest follows
pub met : (ts rest : List Token) {next : Option Tok} → next ≡ tok_at rest → tok_at (ts ++ rest) ≡ follows ts next
met ts rest e = follow ts rest ∙ sym (ap (follows ts) e)

-- Claim n room ts x us says what it means that ts begins with the part n, read to x, and us follows it, before
-- which room tokens more may be opened.
module _ {Part Class : Type 0} {Value : Part → Type 0} {Told : Class → Type 0} (Claim : (n : Part) → ℕ → List Token → Value n → List Token → Type 0) where
  -- The rest of a rule, before ts, claims no more: the part began at from, where start tokens more might be opened. As
  -- many are open at its end as at its beginning.
  abbrev pub Means : {n : Part} → ℕ → List Token → ℕ → List Token → Rule Value Told n → Type 0
  Means {n = n} start from room ts (give x) = (room ≡ start) × Claim n start from x ts
  Means start from room ts refuse = Unit {0}
  Means start from room ts leave_out = Unit {0}
  Means start from room ts (when o b f q) = Leaving o room (λ r. (us : List Token) → Passes b ts us → Means start from r us (f (place ts))) × (passes b (tok_at ts) ≡ false → Means start from room ts q)
  Means start from room ts (named o c find f q) = ((a : Told c) → Leaving o room (λ r. (us : List Token) → Tells find a ts us → Means start from r us (f a (place ts)))) × (told find (tok_at ts) ≡ None → Means start from room ts q)
  Means start from room ts (ahead b p q) = (b (tok_at ts) ≡ true → Means start from room ts p) × (b (tok_at ts) ≡ false → Means start from room ts q)
  Means start from room ts (leave p) = Means start from (suc room) ts p
  Means start from room ts (part m f) = (x : Value m) (us : List Token) → Claim m room ts x us → Means start from room us (f x)

  module _ (rule : (n : Part) → Rule Value Told n) (all_mean : (n : Part) (room : ℕ) (ts : List Token) → Means room ts room ts (rule n)) where
    pub means : {n : Part} {q : ℕ} {p : Rule Value Told n} {us : List Token} {x : Value n} {next : Option Tok} → Runs rule n q p us x next → (start : ℕ) (from rest : List Token) → next ≡ tok_at rest → Means start from q (us ++ rest) p → Claim n start from x rest
    means gives start from rest e m = m.1
    means (over {ts = ts} kept k h) start from rest e m = means h start from rest e (m.0 (ts ++ rest) (passing k))
    means (over {r = r} {ts = ts} opened k h) start from rest e m = means h start from rest e (m.0 r refl (ts ++ rest) (passing k))
    means (skips {b = b} {ts = ts} k h) start from rest e m = means h start from rest e (m.1 (ap (passes b) (met ts rest e) ∙ k))
    means (finds {a = a} {ts = ts} kept k h) start from rest e m = means h start from rest e (m.0 a (ts ++ rest) (telling k))
    means (finds {r = r} {a = a} {ts = ts} opened k h) start from rest e m = means h start from rest e (m.0 a r refl (ts ++ rest) (telling k))
    means (lacks {find = find} {ts = ts} k h) start from rest e m = means h start from rest e (m.1 (ap (told find) (met ts rest e) ∙ k))
    means (sees {b = b} {ts = ts} k h) start from rest e m = means h start from rest e (m.0 (ap b (met ts rest e) ∙ k))
    means (misses {b = b} {ts = ts} k h) start from rest e m = means h start from rest e (m.1 (ap b (met ts rest e) ∙ k))
    means (leaves h) start from rest e m = means h start from rest e m
    means {q = q} (parts {m = k} {f = f} us vs {x = x} h g) start from rest e m =
        means g start from rest e (subst (λ ts. Means start from q ts (part k f)) (append_assoc us vs rest) m x (vs ++ rest)
        (means h q (us ++ (vs ++ rest)) (vs ++ rest) (sym (met vs rest e)) (all_mean k q (us ++ (vs ++ rest)))))

    -- a part that the rules take
    pub taken_means : (n : Part) {room : ℕ} {us : List Token} {x : Value n} {next : Option Tok} → Runs rule n room (rule n) us x next → (rest : List Token) → next ≡ tok_at rest → Claim n room (us ++ rest) x rest
    taken_means n {room = room} {us = us} h rest e = means h room (us ++ rest) rest e (all_mean n room (us ++ rest))

-- Tokens by the tests that they pass, and by what they tell

pub next_symbol : {s : Symbol} {ts us : List Token} → Passes (is_symbol s) ts us → Next (Sym s) ts us
next_symbol {s = s} (passing {t = t} e) = begins (same_symbol s t.tok e)

pub next_word : {k : Keyword} {ts us : List Token} → Passes (is_keyword k) ts us → Next (Word k) ts us
next_word {k = k} (passing {t = t} e) = begins (same_word k t.tok e)

pub next_told : {A : Type 0} {find : Tok → Option A} (token : A → Tok) {a : A} {ts us : List Token} → ((t : Tok) → find t ≡ Some a → t ≡ token a) → Tells find a ts us → Next (token a) ts us
next_told token same (telling {t = t} e) = begins (same t.tok e)

pub next_telling : {A : Type 0} {find : Tok → Option A} {a : A} {ts us : List Token} → Tells find a ts us → (t : Tok) × (find t ≡ Some a) × Next t ts us
next_telling (telling {t = t} e) = (t.tok, e, begins refl)

-- what holds of a token and of what it tells, if it tells something
abbrev pub Says : {A : Type 0} → (A → Tok → Type 0) → Option A → Tok → Type 0
Says P None t = Unit {0}
Says P (Some a) t = P a t

pub said : {A : Type 0} {find : Tok → Option A} {a : A} {ts us : List Token} (P : A → Tok → Type 0) → ((t : Tok) → Says P (find t) t) → Tells find a ts us → (t : Tok) × P a t × Next t ts us
said P h (telling {t = t} e) = (t.tok, subst (λ o. Says P o t.tok) e (h t.tok), begins refl)
