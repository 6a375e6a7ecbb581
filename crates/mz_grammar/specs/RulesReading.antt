-- What a grammar reads at the beginning of a list of tokens: a value and the tokens after it, or the first token that doesn't fit.
use Rattle.std.specs.Prelude.{ℕ, zero, suc, ◌+◌, ◌<◌, List, [], ◌∷◌, ◌++◌, if◌then◌else◌, Option, Some, None, Result, Ok, Err, Bool}
use Rattle.mz_base.specs.declared.fault.Span.{Span}
use Rattle.mz_lexer.specs.declared.token.Token.{Token}
use Rattle.mz_lexer.specs.declared.token.Symbol.{Symbol}
use Rattle.mz_base.specs.declared.keyword.Keyword.{Keyword}
use Rattle.mz_grammar.specs.Tokens.{tok_at, behind, place, passes, told}
use Rattle.mz_grammar.specs.Look.{is_sym, is_word}
use Rattle.mz_grammar.specs.Rules.{Reason, syntax, left_out, too_deep, Opens, keeps, opens, Rule, give, refuse, leave_out, when, named, ahead, leave, part}

-- why a token doesn't fit, and the tokens from there on
pub record Stuck : Type 0 where
  pub why : Reason
  pub rest : List Token

abbrev pub Read : Type 0 → Type 0
Read A = Result (A × List Token) Stuck

abbrev pub Reader : Type 0 → Type 0
Reader A = List Token → Read A

abbrev pub stuck : {A : Type 0} → Reason → List Token → Read A
stuck why ts = Err (record { why = why; rest = ts })

-- what follows depends on something before it
abbrev pub on : {A : Type 0} {B : Type 0} → Option A → B → (A → B) → B
on None other found = other
on (Some a) other found = found a

-- after one more open token, where there is room for it
abbrev pub open_at : {A : Type 0} → ℕ → List Token → (ℕ → Read A) → Read A
open_at zero ts inside = stuck too_deep ts
open_at (suc room) ts inside = inside room

infixl 10 ◌>>=◌
abbrev pub ◌>>=◌ : {A B : Type 0} → Result A Stuck → (A → Result B Stuck) → Result B Stuck
(Ok x) >>= f = f x
(Err e) >>= f = Err e

-- another value for what was read
abbrev pub mapped : {A B : Type 0} → (A → B) → Read A → Read B
mapped f o = o >>= λ x. Ok (f x.0, x.1)

-- what was read before a list, and the list
abbrev pub with_prefix : {A : Type 0} → List A → Read (List A) → Read (List A)
with_prefix all o = mapped (λ xs. all ++ xs) o

-- the elements after x, where a separator tells whether more follow, and next reads those
abbrev pub listed : {A : Type 0} → Reader Bool → Reader (List A) → A → Reader (List A)
listed separator next x ts = separator ts >>= λ b. if b.0 then with_prefix (x ∷ []) (next b.1) else Ok (x ∷ [], b.1)

-- a symbol or a keyword, with its place
abbrev pub symbol_at : Symbol → Reader Span
symbol_at s ts = if is_sym s (tok_at ts) then Ok (place ts, behind ts) else stuck syntax ts

abbrev pub word_at : Keyword → Reader Span
word_at k ts = if is_word k (tok_at ts) then Ok (place ts, behind ts) else stuck syntax ts

-- width for each token
abbrev pub weight : ℕ → List Token → ℕ
weight width [] = 0
weight width (t ∷ ts) = width + weight width ts

-- after a token, which may open something
abbrev pub inside : {A : Type 0} → Opens → ℕ → List Token → (ℕ → Read A) → Read A
inside keeps room ts f = f room
inside opens room ts f = open_at room ts f

module _ {Part Class : Type 0} {Value : Part → Type 0} {Told : Class → Type 0} where
  -- a rule, where the parts are read by inner
  unfoldable pub step : ((m : Part) → ℕ → Reader (Value m)) → {n : Part} → Rule Value Told n → ℕ → Reader (Value n)
  step inner (give x) room ts = Ok (x, ts)
  step inner refuse room ts = stuck syntax ts
  step inner leave_out room ts = stuck left_out ts
  step inner (when o b f q) room ts = if passes b (tok_at ts) then inside o room ts (λ r. step inner (f (place ts)) r (behind ts)) else step inner q room ts
  step inner (named o c find f q) room ts = on (told find (tok_at ts)) (step inner q room ts) (λ a. inside o room ts (λ r. step inner (f a (place ts)) r (behind ts)))
  step inner (ahead b p q) room ts = if b (tok_at ts) then step inner p room ts else step inner q room ts
  step inner (leave p) room ts = step inner p (suc room) ts
  step inner (part m f) room ts = inner m room ts >>= λ x. step inner (f x.0) room x.1

  -- the parts that may come first are lower in the order of ranks, so no part begins with itself
  abbrev pub Falls : (Part → ℕ) → {n : Part} → ℕ → Rule Value Told n → Type 0
  Falls rank r (give x) = Unit {0}
  Falls rank r refuse = Unit {0}
  Falls rank r leave_out = Unit {0}
  Falls rank r (when o b f q) = Falls rank r q
  Falls rank r (named o c find f q) = Falls rank r q
  Falls rank r (ahead b p q) = Falls rank r p × Falls rank r q
  Falls rank r (leave p) = Falls rank r p
  Falls rank r (part m f) = (rank m < r) × ((x : Value m) → Falls rank r (f x))

  -- parts that are nested at most fuel deep
  unfoldable pub read_by : ((n : Part) → Rule Value Told n) → ℕ → (n : Part) → ℕ → Reader (Value n)
  read_by rule zero n room ts = stuck syntax ts
  read_by rule (suc fuel) n room ts = step (read_by rule fuel) (rule n) room ts

  -- what is read, whatever the fuel, where there is enough
  abbrev pub read : ((n : Part) → Rule Value Told n) → (Part → ℕ) → ℕ → (n : Part) → ℕ → Reader (Value n)
  read rule rank width n room ts = read_by rule (suc (weight width ts + rank n)) n room ts
