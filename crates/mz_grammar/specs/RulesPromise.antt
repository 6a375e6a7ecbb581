-- What a caller is promised of a part that is read at the beginning of a list of tokens.
use Rattle.std.specs.Prelude.{◌≡◌, ℕ, List, [], ◌∷◌, ◌++◌, Some, None, Result, Ok, Err}
use Rattle.mz_base.specs.declared.fault.Span.{Span}
use Rattle.mz_base.specs.declared.fault.Fault.{Fault}
use Rattle.mz_base.specs.Faults.{fault_at}
use Rattle.mz_base.specs.declared.kind.Kind.{Kind}
use Rattle.mz_base.specs.declared.kind.Kind.TheVariants as kind
use Rattle.mz_base.specs.declared.stop.Stop.{Stop}
use Rattle.mz_base.specs.declared.stop.Stop.TheVariants.{Refused, Memory}
use Rattle.mz_lexer.specs.declared.token.Token.{Token}
use Rattle.mz_grammar.specs.Tokens.{tok_at, place_or}
use Rattle.mz_grammar.specs.Rules.{Reason, syntax, left_out, too_deep, Rule, Runs, Refuses}
use Rattle.mz_grammar.specs.RulesReading.{Read, stuck}

abbrev pub kind_of : Reason → Kind
kind_of syntax = kind.Syntax
kind_of left_out = kind.LeftOut
kind_of too_deep = kind.TooDeep

-- the reason that a fault tells
abbrev pub reason_of : Kind → Reason
reason_of kind.LeftOut = left_out
reason_of kind.TooDeep = too_deep
reason_of _ = syntax

abbrev pub fault_of : Reason → Span → Fault
fault_of why s = fault_at (kind_of why) s

-- What a private call answered, with the cursor before rest, is what reading gives, unless memory ran out.
abbrev pub Stops : {Y : Type 0} → Span → List Token → Stop → Read Y → Type 0
Stops end rest Memory read = Unit {0}
Stops end rest (Refused f) read = (read ≡ stuck (reason_of f.kind) rest) × (f ≡ fault_of (reason_of f.kind) (place_or end rest))

abbrev pub Gives : {X Y : Type 0} → (X → Y) → Span → List Token → Result X Stop → Read Y → Type 0
Gives view end rest (Ok x) read = read ≡ Ok (view x, rest)
Gives view end rest (Err stop) read = Stops end rest stop read

module _ {Part Class : Type 0} {Value : Part → Type 0} {Told : Class → Type 0} (rule : (n : Part) → Rule Value Told n) where
  -- these tokens, and no others after them, are this part with this value
  abbrev pub IsWithin : (n : Part) → ℕ → List Token → Value n → Type 0
  IsWithin n room ts x = Runs rule n room (rule n) ts x None

  -- some such part begins with these tokens, whatever is open at once
  abbrev pub Begins : Part → List Token → Type 0
  Begins n prefix = (more : List Token) × (x : Value n) × (room : ℕ) × IsWithin n room (prefix ++ more) x

  abbrev pub BeginsWithin : Part → ℕ → List Token → Type 0
  BeginsWithin n room prefix = (more : List Token) × (x : Value n) × IsWithin n room (prefix ++ more) x

  -- no such part goes on with the first token of rest; nor ends there, where rest is the end of the file
  abbrev pub FailsAt : Part → List Token → List Token → Type 0
  FailsAt n prefix [] = (x : Value n) (room : ℕ) → IsWithin n room prefix x → ⊥
  FailsAt n prefix (t ∷ rest) = Begins n (prefix ++ (t ∷ [])) → ⊥

  abbrev pub EndsAt : Part → List Token → List Token → Type 0
  EndsAt n prefix [] = Unit {0}
  EndsAt n prefix (t ∷ rest) = Begins n (prefix ++ (t ∷ [])) → ⊥

  -- the longest prefix that is such a part
  pub record IsLongestPrefix (n : Part) (room : ℕ) (old rest : List Token) (x : Value n) : Type 0 where
    pub prefix : List Token
    pub split : old ≡ prefix ++ rest
    pub reads : IsWithin n room prefix x
    pub longest : EndsAt n prefix rest

  -- the first token at which no such part is possible; it is left out, or not, as the grammar says there
  pub record IsUnfit (n : Part) (room : ℕ) (why : Reason) (end : Span) (old : List Token) (at : Span) : Type 0 where
    pub prefix : List Token
    pub rest : List Token
    pub split : old ≡ prefix ++ rest
    pub place : at ≡ place_or end rest
    pub named : Refuses rule n room (rule n) prefix why (tok_at rest)
    pub fails : FailsAt n prefix rest
    pub begins : Begins n prefix

  -- the token that opens one too many: some such part begins so, and none where no more may be open
  pub record IsTooDeep (n : Part) (room : ℕ) (old : List Token) (at : Span) : Type 0 where
    pub prefix : List Token
    pub token : Token
    pub rest : List Token
    pub split : old ≡ prefix ++ (token ∷ rest)
    pub place : at ≡ token.span
    pub named : Refuses rule n room (rule n) prefix too_deep (Some token.tok)
    pub fails : BeginsWithin n room (prefix ++ (token ∷ [])) → ⊥
    pub begins : Begins n (prefix ++ (token ∷ []))

  abbrev pub IsFault : Part → ℕ → Reason → Span → List Token → Span → Type 0
  IsFault n room syntax end old at = IsUnfit n room syntax end old at
  IsFault n room left_out end old at = IsUnfit n room left_out end old at
  IsFault n room too_deep end old at = IsTooDeep n room old at

  -- what a call answered that reads a part at the beginning of old, where this many tokens more may be opened
  abbrev pub Answers : {X : Type 0} → (n : Part) → (X → Value n) → ℕ → Span → List Token → List Token → Result X Stop → Type 0
  Answers n view room end old new (Ok x) = IsLongestPrefix n room old new (view x)
  Answers n view room end old new (Err Memory) = Unit {0}
  Answers n view room end old new (Err (Refused f)) = (f ≡ fault_of (reason_of f.kind) f.span) × IsFault n room (reason_of f.kind) end old f.span
