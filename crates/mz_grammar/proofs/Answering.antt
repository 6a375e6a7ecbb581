-- What a reader by rules answers is what its callers are promised.
use Rattle.std.proofs.Common.{◌≡◌, ℕ, ◌+◌, ◌≤◌, ◌<◌, List, [], ◌∷◌, ◌++◌, sym, ap, ◌∙◌, subst, append_assoc, append-nil, arith, true, Bool, Option, Result}
use Rattle.std.specs.Prelude.{Ok, Err, Some, None}
use Rattle.mz_base.specs.declared.fault.Span.{Span}
use Rattle.mz_base.specs.declared.stop.Stop.{Stop}
use Rattle.mz_base.specs.declared.stop.Stop.TheVariants.{Refused, Memory}
use Rattle.mz_lexer.specs.declared.token.Token.{Token}
use Rattle.mz_lexer.specs.declared.token.Tok.{Tok}
use Rattle.mz_grammar.specs.Tokens.{tok_at, place_or}
use Rattle.mz_grammar.specs.Rules.{Reason, syntax, left_out, too_deep, Rule, Runs, Refuses, unfit, unwanted, one_too_many, one_name_too_many, behind_over, behind_skip, behind_find, behind_lack, behind_sight, behind_miss, behind_leave, within, beyond}
use Rattle.mz_grammar.specs.RulesReading.{Read, stuck, Falls, read}
use Rattle.mz_grammar.specs.RulesPromise.{reason_of, fault_of, Gives, Answers, IsWithin, Begins, BeginsWithin, FailsAt, EndsAt, IsUnfit, IsFault}
use Rattle.mz_grammar.proofs.Laws.{Outcome, Reaches, reached, too_much, read_sound, read_reaches, read_refuses}
use Rattle.mz_grammar.proofs.Viable.{TakesToken, CanComplete, Completion, Brought, ends, some_part}

-- a token is one too many only where there is one
abbrev Deep : Reason → Option Tok → Type 0
Deep too_deep None = ⊥
Deep too_deep (Some t) = Unit {0}
Deep syntax o = Unit {0}
Deep left_out o = Unit {0}

-- no reading that stops for this reason is what a reader with less room may answer
abbrev Ends : Reason → Type 0
Ends syntax = Unit {0}
Ends left_out = Unit {0}
Ends too_deep = ⊥

ended : (why : Reason) → Ends why → too_deep ≡ why → ⊥
ended syntax h e = absurd (cc)
ended left_out h e = absurd (cc)
ended too_deep h e = h

behind_or : {A : Type 0} → List Token → Read A → List Token
behind_or d (Ok x) = x.1
behind_or d (Err e) = d

reason_or : {A : Type 0} → Read A → Reason
reason_or (Ok x) = syntax
reason_or (Err e) = e.why

-- one token more, and then others
pub one_more : (us more : List Token) (t : Token) → ((us ++ (t ∷ [])) ++ more) ++ [] ≡ us ++ (t ∷ more)
one_more us more t = append-nil ((us ++ (t ∷ [])) ++ more) ∙ append_assoc us (t ∷ []) more

module _ {Part Class : Type 0} {Value : Part → Type 0} {Told : Class → Type 0} (rule : (n : Part) → Rule Value Told n) (rank : Part → ℕ) (width : ℕ) (low : (n : Part) → rank n < width) (falls : (n : Part) → Falls rank (rank n) (rule n))
    (MayEndBefore : Part → Option Tok → Type 0) (takes_token : Part → Bool) (IsUsable : (n : Part) → Value n → Type 0) (far : Part → Bool) (aim : Token)
    (takes : (n : Part) → takes_token n ≡ true → TakesToken rule MayEndBefore takes_token IsUsable far aim (rule n)) (complete : (n : Part) → Completion rule (rule n)) (can_complete : (n : Part) → CanComplete rule MayEndBefore takes_token IsUsable far aim (rule n))
    (bring : (n : Part) → far n ≡ true → (q : ℕ) (us : List Token) (x : Value n) (next : Option Tok) → Runs rule n q (rule n) us x next → Brought rule MayEndBefore takes_token IsUsable far aim takes complete can_complete n us) where
  deep : {n : Part} {q : ℕ} {p : Rule Value Told n} {us : List Token} {why : Reason} {next : Option Tok} → Refuses rule n q p us why next → Deep why next
  deep unfit = tt
  deep unwanted = tt
  deep (one_too_many e) = tt
  deep (one_name_too_many e) = tt
  deep (behind_over k e h) = deep h
  deep (behind_skip e h) = deep h
  deep (behind_find k e h) = deep h
  deep (behind_lack e h) = deep h
  deep (behind_sight e h) = deep h
  deep (behind_miss e h) = deep h
  deep (behind_leave h) = deep h
  deep (within h) = deep h
  deep (beyond us vs h g) = deep g

  abbrev reads : (n : Part) → ℕ → List Token → Read (Value n)
  reads n room ts = read rule rank width n room ts

  abbrev Reached : {A : Type 0} → ℕ → ℕ → A → List Token → Read A → Type 0
  Reached room n x rest o = Reaches rule rank width low falls room n x rest o

  -- with so much room, only one rest can be left
  one_rest : {A : Type 0} {room a b : ℕ} {x y : A} {r s : List Token} {o : Read A} → Reached room a x r o → Reached room b y s o → a ≤ room → b ≤ room → r ≡ s
  unfolding behind_or
  one_rest {r = r} (reached p) (reached q) la lb = ap (behind_or r) (sym p ∙ q)
  one_rest (too_much r p l) q la lb = absurd (omega arith)
  one_rest p (too_much r q l) la lb = absurd (omega arith)

  -- what is refused is no reading, with whatever room
  unread : {A : Type 0} {room a : ℕ} {x : A} {r s : List Token} {o : Read A} {why : Reason} → Ends why → Reached room a x r o → o ≡ stuck why s → ⊥
  unfolding reason_or
  unread e (reached p) q = absurd (cc)
  unread {why = why} e (too_much r p l) q = ended why e (ap reason_or (sym p ∙ q))

  -- what is refused is no reading with just this room
  unread_here : {A : Type 0} {room : ℕ} {x : A} {r s : List Token} {o : Read A} {why : Reason} → Reached room room x r o → o ≡ stuck why s → ⊥
  unread_here (reached p) q = absurd (cc)
  unread_here (too_much r p l) q = absurd (omega arith)

  reach : (n : Part) (q room : ℕ) (us rest : List Token) (x : Value n) → Runs rule n q (rule n) us x (tok_at rest) → Reached room q x rest (reads n room (us ++ rest))
  reach = read_reaches rule rank width low falls

  refused : (n : Part) (room : ℕ) (us rest : List Token) (why : Reason) → Refuses rule n room (rule n) us why (tok_at rest) → reads n room (us ++ rest) ≡ stuck why rest
  refused = read_refuses rule rank width low falls

  -- a longer one would be another reading
  longest : (n : Part) (room : ℕ) (us rest : List Token) (x : Value n) → Runs rule n room (rule n) us x (tok_at rest) → EndsAt rule n us rest
  longest n room us [] x h = tt
  longest n room us (t ∷ rest) x h = λ b.
      let big : ℕ = room + b.2 in
      let there : Reached big b.2 b.1 [] (reads n big (us ++ (t ∷ b.0))) = subst (λ l. Reached big b.2 b.1 [] (reads n big l)) (one_more us b.0 t) (reach n b.2 big ((us ++ (t ∷ [])) ++ b.0) [] b.1 b.3) in
      let same : t ∷ b.0 ≡ [] = one_rest (reach n room big us (t ∷ b.0) x h) there (omega arith) (omega arith) in
      absurd (cc)

  fails : (n : Part) (room : ℕ) (us : List Token) (why : Reason) (rest : List Token) → Ends why → Refuses rule n room (rule n) us why (tok_at rest) → FailsAt rule n us rest
  fails n room us why [] e h = λ x q run. unread e (reach n q room us [] x run) (refused n room us [] why h)
  fails n room us why (t ∷ rest) e h = λ b.
      unread e (subst (λ l. Reached room b.2 b.1 [] (reads n room l)) (one_more us b.0 t) (reach n b.2 room ((us ++ (t ∷ [])) ++ b.0) [] b.1 b.3)) (refused n room us (t ∷ b.0) why h)

  fails_within : (n : Part) (room : ℕ) (us : List Token) (why : Reason) (t : Token) → Refuses rule n room (rule n) us why (Some t.tok) → BeginsWithin rule n room (us ++ (t ∷ [])) → ⊥
  fails_within n room us why t h b =
      unread_here (subst (λ l. Reached room room b.1 [] (reads n room l)) (one_more us b.0 t) (reach n room room ((us ++ (t ∷ [])) ++ b.0) [] b.1 b.2)) (refused n room us (t ∷ b.0) why h)

  unfit_there : (n : Part) (room : ℕ) (end : Span) (old : List Token) (why : Reason) (at : Span) (new us : List Token) → Ends why → at ≡ place_or end new → old ≡ us ++ new → Refuses rule n room (rule n) us why (tok_at new)
      → Begins rule n us → IsUnfit rule n room why end old at
  unfit_there n room end old why at new us e p s h b = record { prefix = us; rest = new; split = s; place = p; named = h; fails = fails n room us why new e h; begins = b }

  begins : (n : Part) (q : ℕ) (us : List Token) (why : Reason) → Ends why → (next : List Token) → Refuses rule n q (rule n) us why (tok_at next) → Begins rule n us
  begins n q us syntax e next h = let r = some_part rule MayEndBefore takes_token IsUsable far aim takes complete can_complete bring n us syntax next h in (r.0, r.1, r.2.0, subst (λ l. IsWithin rule n r.2.0 (l ++ r.0) r.1) (append-nil us) r.2.1)
  begins n q us left_out e next h = let r = some_part rule MayEndBefore takes_token IsUsable far aim takes complete can_complete bring n us left_out next h in (r.0, r.1, r.2.0, subst (λ l. IsWithin rule n r.2.0 (l ++ r.0) r.1) (append-nil us) r.2.1)
  begins n q us too_deep e next h = absurd e

  faulty : (n : Part) (room : ℕ) (end : Span) (old new : List Token) (why : Reason) (at : Span) (us : List Token) → at ≡ place_or end new → old ≡ us ++ new → Refuses rule n room (rule n) us why (tok_at new) → IsFault rule n room why end old at
  faulty n room end old new syntax at us p s h = unfit_there n room end old syntax at new us tt p s h (begins n room us syntax tt new h)
  faulty n room end old new left_out at us p s h = unfit_there n room end old left_out at new us tt p s h (begins n room us left_out tt new h)
  faulty n room end old [] too_deep at us p s h = absurd (deep h)
  faulty n room end old (t ∷ rest) too_deep at us p s h =
      let r = some_part rule MayEndBefore takes_token IsUsable far aim takes complete can_complete bring n us too_deep (t ∷ rest) h in
      record { prefix = us; token = t; rest = rest; split = s; place = p; named = h; fails = fails_within n room us too_deep t h; begins = (r.0, r.1, r.2.0, r.2.1) }

  -- what gives the reading keeps the promise, for a part that may stand at the end
  pub answers : {X : Type 0} (n : Part) (view : X → Value n) (room : ℕ) (end : Span) (old new : List Token) (result : Result X Stop) → MayEndBefore n None → Gives view end new result (read rule rank width n room old) → Answers rule n view room end old new result
  answers n view room end old new (Ok x) may_end g =
      let h : Outcome rule rank width low falls n room (rule n) old (Ok (view x, new)) = subst (Outcome rule rank width low falls n room (rule n) old) g (read_sound rule rank width low falls n room old) in
      record { prefix = h.0; split = h.1; reads = ends rule MayEndBefore takes_token IsUsable far aim takes complete can_complete None h.2 may_end (can_complete n); longest = longest n room h.0 new (view x) h.2 }
  answers n view room end old new (Err Memory) may_end g = tt
  answers n view room end old new (Err (Refused f)) may_end g =
      let h : Outcome rule rank width low falls n room (rule n) old (stuck (reason_of f.kind) new) = subst (Outcome rule rank width low falls n room (rule n) old) g.0 (read_sound rule rank width low falls n room old) in
      let place : f.span ≡ place_or end new = ap (λ f. f.span) g.1 in
      (g.1 ∙ ap (fault_of (reason_of f.kind)) (sym place), faulty n room end old new (reason_of f.kind) f.span h.0 place h.1 h.2)
