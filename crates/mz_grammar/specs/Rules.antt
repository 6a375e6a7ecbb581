-- Rules of a grammar, and what they allow.
--
-- A grammar names its parts, says what each is read to (Value), and gives one rule for each. A rule says what may follow, by
-- tests on the next token, and each test is an argument of its form. So the grammar is deterministic by its own words:
-- each repetition of the EBNF goes on as long as the token after it allows.
use Rattle.std.specs.Prelude.{◌≡◌, ℕ, zero, suc, Bool, true, false, List, [], ◌∷◌, ◌++◌, Option, Some, None}
use Rattle.mz_base.specs.declared.fault.Span.{Span}
use Rattle.mz_lexer.specs.declared.token.Token.{Token}
use Rattle.mz_lexer.specs.declared.token.Tok.{Tok}
use Rattle.mz_grammar.specs.Tokens.{follows, passes, told}

-- why a token doesn't fit: no file goes on so, or the form is left out, or too much is open
pub data Reason : Type 0 where
  syntax : Reason
  left_out : Reason
  too_deep : Reason

-- whether a token opens something
pub data Opens : Type 0 where
  keeps : Opens
  opens : Opens

-- The rest of the rule for the part n. Tokens of a class tell something, as an identifier tells its name (Told).
pub data Rule {Part Class : Type 0} (Value : Part → Type 0) (Told : Class → Type 0) (n : Part) : Type 0 where
  -- the part ends here, and this is its value
  give : Value n → Rule Value Told n
  -- no token fits, or none of a form that is left out
  refuse : Rule Value Told n
  leave_out : Rule Value Told n
  -- over the next token if it passes the test, and on by its place; or else
  when : Opens → (Tok → Bool) → (Span → Rule Value Told n) → Rule Value Told n → Rule Value Told n
  -- over the next token if it is of the class, and on by what it tells and its place; or else
  named : Opens → (c : Class) → (Tok → Option (Told c)) → (Told c → Span → Rule Value Told n) → Rule Value Told n → Rule Value Told n
  -- by a test on the next token, which isn't passed over; or else
  ahead : (Option Tok → Bool) → Rule Value Told n → Rule Value Told n → Rule Value Told n
  -- what was opened last is closed
  leave : Rule Value Told n → Rule Value Told n
  -- another part, and on by its value
  part : (m : Part) → (Value m → Rule Value Told n) → Rule Value Told n

-- how many tokens more may be opened before a token, and after it
pub data Behind : Opens → ℕ → ℕ → Type 0 where
  kept : {room : ℕ} → Behind keeps room room
  opened : {room : ℕ} → Behind opens (suc room) room

module _ {Part Class : Type 0} {Value : Part → Type 0} {Told : Class → Type 0} (rule : (n : Part) → Rule Value Told n) where
  -- Where room tokens more may be opened, the rule takes these tokens and gives x, and next follows them.
  pub data Runs : (n : Part) → ℕ → Rule Value Told n → List Token → Value n → Option Tok → Type 0 where
    gives : {n : Part} {room : ℕ} {x : Value n} {next : Option Tok} → Runs n room (give x) [] x next
    over : {n : Part} {room r : ℕ} {o : Opens} {b : Tok → Bool} {f : Span → Rule Value Told n} {q : Rule Value Told n} {t : Token} {ts : List Token} {x : Value n} {next : Option Tok} → Behind o room r → b t.tok ≡ true → Runs n r (f t.span) ts x next → Runs n room (when o b f q) (t ∷ ts) x next
    skips : {n : Part} {room : ℕ} {o : Opens} {b : Tok → Bool} {f : Span → Rule Value Told n} {q : Rule Value Told n} {ts : List Token} {x : Value n} {next : Option Tok} → passes b (follows ts next) ≡ false → Runs n room q ts x next → Runs n room (when o b f q) ts x next
    finds : {n : Part} {room r : ℕ} {o : Opens} {c : Class} {find : Tok → Option (Told c)} {f : Told c → Span → Rule Value Told n} {q : Rule Value Told n} {a : Told c} {t : Token} {ts : List Token} {x : Value n} {next : Option Tok} → Behind o room r → find t.tok ≡ Some a → Runs n r (f a t.span) ts x next → Runs n room (named o c find f q) (t ∷ ts) x next
    lacks : {n : Part} {room : ℕ} {o : Opens} {c : Class} {find : Tok → Option (Told c)} {f : Told c → Span → Rule Value Told n} {q : Rule Value Told n} {ts : List Token} {x : Value n} {next : Option Tok} → told find (follows ts next) ≡ None → Runs n room q ts x next → Runs n room (named o c find f q) ts x next
    sees : {n : Part} {room : ℕ} {b : Option Tok → Bool} {p q : Rule Value Told n} {ts : List Token} {x : Value n} {next : Option Tok} → b (follows ts next) ≡ true → Runs n room p ts x next → Runs n room (ahead b p q) ts x next
    misses : {n : Part} {room : ℕ} {b : Option Tok → Bool} {p q : Rule Value Told n} {ts : List Token} {x : Value n} {next : Option Tok} → b (follows ts next) ≡ false → Runs n room q ts x next → Runs n room (ahead b p q) ts x next
    leaves : {n : Part} {room : ℕ} {p : Rule Value Told n} {ts : List Token} {x : Value n} {next : Option Tok} → Runs n (suc room) p ts x next → Runs n room (leave p) ts x next
    parts : {n m : Part} {room : ℕ} {f : Value m → Rule Value Told n} (us vs : List Token) {x : Value m} {y : Value n} {next : Option Tok} → Runs m room (rule m) us x (follows vs next) → Runs n room (f x) vs y next → Runs n room (part m f) (us ++ vs) y next

  -- It takes these tokens, and the next one doesn't fit.
  pub data Refuses : (n : Part) → ℕ → Rule Value Told n → List Token → Reason → Option Tok → Type 0 where
    unfit : {n : Part} {room : ℕ} {next : Option Tok} → Refuses n room refuse [] syntax next
    unwanted : {n : Part} {room : ℕ} {next : Option Tok} → Refuses n room leave_out [] left_out next
    one_too_many : {n : Part} {b : Tok → Bool} {f : Span → Rule Value Told n} {q : Rule Value Told n} {t : Tok} → b t ≡ true → Refuses n zero (when opens b f q) [] too_deep (Some t)
    one_name_too_many : {n : Part} {c : Class} {find : Tok → Option (Told c)} {f : Told c → Span → Rule Value Told n} {q : Rule Value Told n} {a : Told c} {t : Tok} → find t ≡ Some a → Refuses n zero (named opens c find f q) [] too_deep (Some t)
    behind_over : {n : Part} {room r : ℕ} {o : Opens} {b : Tok → Bool} {f : Span → Rule Value Told n} {q : Rule Value Told n} {t : Token} {ts : List Token} {why : Reason} {next : Option Tok} → Behind o room r → b t.tok ≡ true → Refuses n r (f t.span) ts why next → Refuses n room (when o b f q) (t ∷ ts) why next
    behind_skip : {n : Part} {room : ℕ} {o : Opens} {b : Tok → Bool} {f : Span → Rule Value Told n} {q : Rule Value Told n} {ts : List Token} {why : Reason} {next : Option Tok} → passes b (follows ts next) ≡ false → Refuses n room q ts why next → Refuses n room (when o b f q) ts why next
    behind_find : {n : Part} {room r : ℕ} {o : Opens} {c : Class} {find : Tok → Option (Told c)} {f : Told c → Span → Rule Value Told n} {q : Rule Value Told n} {a : Told c} {t : Token} {ts : List Token} {why : Reason} {next : Option Tok} → Behind o room r → find t.tok ≡ Some a → Refuses n r (f a t.span) ts why next → Refuses n room (named o c find f q) (t ∷ ts) why next
    behind_lack : {n : Part} {room : ℕ} {o : Opens} {c : Class} {find : Tok → Option (Told c)} {f : Told c → Span → Rule Value Told n} {q : Rule Value Told n} {ts : List Token} {why : Reason} {next : Option Tok} → told find (follows ts next) ≡ None → Refuses n room q ts why next → Refuses n room (named o c find f q) ts why next
    behind_sight : {n : Part} {room : ℕ} {b : Option Tok → Bool} {p q : Rule Value Told n} {ts : List Token} {why : Reason} {next : Option Tok} → b (follows ts next) ≡ true → Refuses n room p ts why next → Refuses n room (ahead b p q) ts why next
    behind_miss : {n : Part} {room : ℕ} {b : Option Tok → Bool} {p q : Rule Value Told n} {ts : List Token} {why : Reason} {next : Option Tok} → b (follows ts next) ≡ false → Refuses n room q ts why next → Refuses n room (ahead b p q) ts why next
    behind_leave : {n : Part} {room : ℕ} {p : Rule Value Told n} {ts : List Token} {why : Reason} {next : Option Tok} → Refuses n (suc room) p ts why next → Refuses n room (leave p) ts why next
    within : {n m : Part} {room : ℕ} {f : Value m → Rule Value Told n} {ts : List Token} {why : Reason} {next : Option Tok} → Refuses m room (rule m) ts why next → Refuses n room (part m f) ts why next
    beyond : {n m : Part} {room : ℕ} {f : Value m → Rule Value Told n} (us vs : List Token) {x : Value m} {why : Reason} {next : Option Tok} → Runs m room (rule m) us x (follows vs next) → Refuses n room (f x) vs why next → Refuses n room (part m f) (us ++ vs) why next
