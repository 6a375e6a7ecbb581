-- A part that can't end before a given token as it stands can be made longer, until it may.
use Rattle.std.proofs.Common.{◌≡◌, ℕ, List, [], ◌∷◌, ◌++◌, refl, sym, subst, append_assoc, append-nil, true, Bool, Option}
use Rattle.std.specs.Prelude.{Ok, Err, Some}
use Rattle.mz_base.specs.declared.fault.Span.{Span}
use Rattle.mz_lexer.specs.declared.token.Token.{Token}
use Rattle.mz_lexer.specs.declared.token.Tok.{Tok}
use Rattle.mz_grammar.specs.Tokens.{follows}
use Rattle.mz_grammar.specs.Rules.{Rule, give, refuse, leave_out, when, named, ahead, leave, part, Runs, gives, over, skips, finds, lacks, sees, misses, leaves, parts}
use Rattle.mz_grammar.specs.RulesReading.{Read, step, read_by}
use Rattle.mz_grammar.proofs.Viable.{Goes, Brought, goes_in, goes_out, goes_over, goes_by, Taken, takes_step, TakesToken, CanComplete, Completion, takes_a_token, ends}

-- the same last token, and the same ones before it
pub same_last : (us vs : List Token) (t u : Token) → us ++ (t ∷ []) ≡ vs ++ (u ∷ []) → (us ≡ vs) × (t ≡ u)
same_last [] [] t u e = (refl, cc)
same_last [] (v ∷ []) t u e = absurd (cc)
same_last [] (v ∷ (w ∷ vs)) t u e = absurd (cc)
same_last (v ∷ []) [] t u e = absurd (cc)
same_last (v ∷ (w ∷ us)) [] t u e = absurd (cc)
same_last (a ∷ us) (v ∷ vs) t u e = let r = same_last us vs t u (cc) in let head : a ≡ v = cc in (both head r.0, r.1)
  where
    both : {a v : Token} {us vs : List Token} → a ≡ v → us ≡ vs → a ∷ us ≡ v ∷ vs
    both h g = cc

module _ {Part Class : Type 0} {Value : Part → Type 0} {Told : Class → Type 0} (rule : (n : Part) → Rule Value Told n) (aim : Token) where
  -- a reading that took all but one token
  abbrev pub Stopped : {A : Type 0} → Read A → Type 0
  Stopped (Ok (x, [])) = ⊥
  Stopped (Ok (x, (t ∷ []))) = Unit {0}
  Stopped (Ok (x, (t ∷ (u ∷ rest)))) = ⊥
  Stopped (Err e) = ⊥

  -- the rule may take just these tokens before the aim
  abbrev pub Before : {n : Part} → Rule Value Told n → List Token → Type 0
  Before p more = Stopped (step (read_by rule 60) p 9 (more ++ (aim ∷ [])))

  stop : {n : Part} (p : Rule Value Told n) (more : List Token) (o : Read (Value n)) → Taken rule n 9 p (more ++ (aim ∷ [])) o → Stopped o → (x : Value n) × Goes rule p more x (Some aim.tok)
  stop p more (Ok (x, [])) h d = absurd d
  stop {n = n} p more (Ok (x, (t ∷ []))) h d =
      let same = same_last more h.0 aim t h.1 in
      (x, (9, subst (λ us. Runs rule n 9 p us x (Some aim.tok)) (sym same.0) (subst (λ t. Runs rule n 9 p h.0 x (Some t.tok)) (sym same.1) h.2)))
  stop p more (Ok (x, (t ∷ (u ∷ rest)))) h d = absurd d
  stop p more (Err e) h d = absurd d

  stopped : {n : Part} (p : Rule Value Told n) (more : List Token) → Before p more → (x : Value n) × Goes rule p more x (Some aim.tok)
  stopped p more d = stop p more _ (takes_step rule p more (aim ∷ [])) d

  module _ (MayEndBefore : Part → Option Tok → Type 0) (takes_token : Part → Bool) (IsUsable : (n : Part) → Value n → Type 0) (far : Part → Bool)
      (takes : (n : Part) → takes_token n ≡ true → TakesToken rule MayEndBefore takes_token IsUsable far aim (rule n)) (complete : (n : Part) → Completion rule (rule n)) (can_complete : (n : Part) → CanComplete rule MayEndBefore takes_token IsUsable far aim (rule n)) where
    -- a way of p never lets the part end, or else these tokens bring it to the aim
    pub data Seen {n : Part} (p way : Rule Value Told n) : Type 0 where
      firm : TakesToken rule MayEndBefore takes_token IsUsable far aim way → Seen p way
      by : (more : List Token) → Before p more → Seen p way

    -- what follows the part m takes a token; or else m may end before the aim, or is brought to it
    pub data Reach (m : Part) {n : Part} (f : Value m → Rule Value Told n) : Rule Value Told n → Type 0 where
      firmly : {p : Rule Value Told n} → TakesToken rule MayEndBefore takes_token IsUsable far aim p → Reach m f p
      near : {p : Rule Value Told n} → MayEndBefore m (Some aim.tok) → Before p [] → Reach m f p
      farther : {p : Rule Value Told n} (more : List Token) → far m ≡ true → ((x : Value m) → Before (f x) more) → follows more (Some aim.tok) ≡ Some aim.tok → Reach m f p

    -- the rule can be brought to the aim, wherever it may end
    abbrev pub Long : {n : Part} → Rule Value Told n → Type 0
    Long (give x) = Unit {0}
    Long refuse = Unit {0}
    Long leave_out = Unit {0}
    Long (when o b f q) = ((s : Span) → Long (f s)) × Seen (when o b f q) q × Long q
    Long (named o c find f q) = ((a : Told c) (s : Span) → Long (f a s)) × Seen (named o c find f q) q × Long q
    Long (ahead b p q) = Seen (ahead b p q) p × Long p × Seen (ahead b p q) q × Long q
    Long (leave p) = Long p
    Long (part m f) = (x : Value m) → Reach m f (f x) × Long (f x)

    module _ (longs : (n : Part) → far n ≡ true → Long (rule n)) where
      abbrev Longer : {n : Part} → Rule Value Told n → List Token → Type 0
      Longer {n = n} p us = (more : List Token) × (y : Value n) × Goes rule p (us ++ more) y (Some aim.tok)

      by_way : {n : Part} {q : ℕ} {p way : Rule Value Told n} {x : Value n} {next : Option Tok} → Seen p way → Runs rule n q way [] x next → Longer p []
      by_way (firm t) h = absurd (takes_a_token rule MayEndBefore takes_token IsUsable far aim takes complete can_complete h t)
      by_way {p = p} (by more b) h = let r = stopped p more b in (more, r.0, r.1)

      behind_it : {n m : Part} {q : ℕ} (f : Value m → Rule Value Told n) (us : List Token) (x : Value m) {p : Rule Value Told n} {y : Value n} {next : Option Tok} → f x ≡ p → Reach m f p → Runs rule m q (rule m) us x next → (far m ≡ true → Longer (rule m) us) → Runs rule n q p [] y next → Longer (part m f) us
      behind_it f us x e (firmly t) h l g = absurd (takes_a_token rule MayEndBefore takes_token IsUsable far aim takes complete can_complete g t)
      behind_it {n = n} {m = m} {q = q} f us x {p = p} e (near c b) h l g =
          let r = stopped p [] b in
          ([], r.0, goes_in rule us [] (q, ends rule MayEndBefore takes_token IsUsable far aim takes complete can_complete (Some aim.tok) h c (can_complete m)) (r.1.0, subst (λ p. Runs rule n r.1.0 p [] r.0 (Some aim.tok)) (sym e) r.1.1))
      behind_it {m = m} f us x e (farther more t b s) h l g =
          let r = l t in
          let k = stopped (f r.1) more (b r.1) in (
            r.0 ++ more,
            k.0,
            subst (λ us. Goes rule (part m f) us k.0 (Some aim.tok)) (append_assoc us r.0 more)
                (goes_in rule (us ++ r.0) more (r.2.0, subst (λ o. Runs rule m r.2.0 (rule m) (us ++ r.0) r.1 o) (sym s) r.2.1) k.1),
          )

      longer : {n : Part} {q : ℕ} {p : Rule Value Told n} {us : List Token} {x : Value n} {next : Option Tok} → Runs rule n q p us x next → Long p → Longer p us
      longer (gives {x = x}) l = ([], x, (0, gives))
      longer (over {o = o} {t = t} k e h) l = let r = longer h (l.0 t.span) in (r.0, r.1, goes_over rule o e r.2)
      longer (skips {ts = []} e h) l = by_way l.1 h
      longer (skips {ts = t ∷ ts} e h) l = let r = longer h l.2 in (r.0, r.1, (r.2.0, skips e r.2.1))
      longer (finds {o = o} {a = a} {t = t} k e h) l = let r = longer h (l.0 a t.span) in (r.0, r.1, goes_by rule o e r.2)
      longer (lacks {ts = []} e h) l = by_way l.1 h
      longer (lacks {ts = t ∷ ts} e h) l = let r = longer h l.2 in (r.0, r.1, (r.2.0, lacks e r.2.1))
      longer (sees {ts = []} e h) l = by_way l.0 h
      longer (sees {ts = t ∷ ts} e h) l = let r = longer h l.1 in (r.0, r.1, (r.2.0, sees e r.2.1))
      longer (misses {ts = []} e h) l = by_way l.2 h
      longer (misses {ts = t ∷ ts} e h) l = let r = longer h l.3 in (r.0, r.1, (r.2.0, misses e r.2.1))
      longer (leaves h) l = let r = longer h l in (r.0, r.1, goes_out rule r.2)
      longer (parts {m = m} {room = q} {f = f} us [] {x = x} h g) l = subst (Longer (part m f)) (sym (append-nil us)) (behind_it f us x refl (l x).0 h (λ t. longer h (longs m t)) g)
      longer (parts {m = m} {room = q} {f = f} us (t ∷ vs) {x = x} h g) l =
          let r = longer g (l x).1 in
          (r.0, r.1, subst (λ us. Goes rule (part m f) us r.1 (Some aim.tok)) (sym (append_assoc us (t ∷ vs) r.0)) (goes_in rule us (t ∷ (vs ++ r.0)) (q, h) r.2))

      -- some tokens more bring a part to the aim
      pub bring : (n : Part) → far n ≡ true → (q : ℕ) (us : List Token) (x : Value n) (next : Option Tok) → Runs rule n q (rule n) us x next → Brought rule MayEndBefore takes_token IsUsable far aim takes complete can_complete n us
      bring n t q us x next h = longer h (longs n t)
