-- Each prefix of tokens that a grammar hasn't refused begins some part, where the grammar's rules have a few properties.
use Rattle.std.proofs.Common.{◌≡◌, ℕ, zero, suc, ◌+◌, List, [], ◌∷◌, ◌++◌, refl, sym, ap, ◌∙◌, subst, append_assoc, arith, true, false, Bool, Option, append-nil}
use Rattle.std.specs.Prelude.{Ok, Err, Some, None, if◌then◌else◌}
use Rattle.mz_base.specs.declared.fault.Span.{Span}
use Rattle.mz_lexer.specs.declared.token.Token.{Token}
use Rattle.mz_lexer.specs.declared.token.Tok.{Tok}
use Rattle.mz_grammar.specs.Tokens.{tok_at, follows, passes, told}
use Rattle.mz_grammar.specs.Rules.{Reason, syntax, left_out, too_deep, Opens, keeps, opens, Rule, give, refuse, leave_out, when, named, ahead, leave, part, Behind, kept, opened, Runs, gives, over, skips, finds, lacks, sees, misses, leaves, parts, Refuses, unfit, unwanted, one_too_many, one_name_too_many, behind_over, behind_skip, behind_find, behind_lack, behind_sight, behind_miss, behind_leave, within, beyond}
use Rattle.mz_grammar.specs.RulesReading.{Read, on, ◌>>=◌, step, read_by, Falls}
use Rattle.mz_grammar.proofs.Laws.{follow}

-- the tokens that a reader has taken in besides: the one that is one too many
abbrev pub allowed : Reason → List Token → List Token
allowed too_deep (t ∷ rest) = t ∷ []
allowed too_deep [] = []
allowed syntax rest = []
allowed left_out rest = []

-- a token was taken, or is one too many
abbrev pub Begun : List Token → Reason → List Token → Type 0
Begun [] syntax rest = ⊥
Begun [] left_out rest = ⊥
Begun [] too_deep [] = ⊥
Begun [] too_deep (t ∷ rest) = Unit {0}
Begun (t ∷ us) why rest = Unit {0}

-- where it is so
abbrev pub Where : Bool → Type 0 → Type 0
Where true A = A
Where false A = Unit {0}

pub where_so : {A : Type 0} (b : Bool) → b ≡ true → Where b A → A
where_so true e h = h
where_so false e h = absurd (cc)

abbrev pub HasToken : List Token → Type 0
HasToken [] = ⊥
HasToken (t ∷ us) = Unit {0}

has_left : (us vs : List Token) → HasToken us → HasToken (us ++ vs)
has_left [] vs h = absurd h
has_left (t ∷ us) vs h = tt

has_right : (us vs : List Token) → HasToken vs → HasToken (us ++ vs)
has_right [] vs h = h
has_right (t ∷ us) vs h = tt

-- the token that follows stays the same, whatever follows
same_prefix : (us : List Token) (why : Reason) (rest more : List Token) (next other : Option Tok) → tok_at rest ≡ next → Begun us why rest → follows us next ≡ follows ((us ++ allowed why rest) ++ more) other
same_prefix [] syntax rest more next other e b = absurd b
same_prefix [] left_out rest more next other e b = absurd b
same_prefix [] too_deep [] more next other e b = absurd b
same_prefix [] too_deep (t ∷ rest) more next other e b = sym e
same_prefix (t ∷ us) why rest more next other e b = refl

module _ {Part Class : Type 0} {Value : Part → Type 0} {Told : Class → Type 0} (rule : (n : Part) → Rule Value Told n) where
  -- more room harms nothing
  pub raise : {n : Part} {q : ℕ} {p : Rule Value Told n} {us : List Token} {x : Value n} {next : Option Tok} → Runs rule n q p us x next → Runs rule n (suc q) p us x next
  raise gives = gives
  raise (over kept e h) = over kept e (raise h)
  raise (over opened e h) = over opened e (raise h)
  raise (skips e h) = skips e (raise h)
  raise (finds kept e h) = finds kept e (raise h)
  raise (finds opened e h) = finds opened e (raise h)
  raise (lacks e h) = lacks e (raise h)
  raise (sees e h) = sees e (raise h)
  raise (misses e h) = misses e (raise h)
  raise (leaves h) = leaves (raise h)
  raise (parts us vs h g) = parts us vs (raise h) (raise g)

  raise_to : (k : ℕ) {n : Part} {q : ℕ} {p : Rule Value Told n} {us : List Token} {x : Value n} {next : Option Tok} → Runs rule n q p us x next → (r : ℕ) → q + k ≡ r → Runs rule n r p us x next
  raise_to zero {n = n} {p = p} {us = us} {x = x} {next = next} h r e = subst (λ r. Runs rule n r p us x next) (omega (arith, e)) h
  raise_to (suc k) {n = n} {q = q} {p = p} {us = us} {x = x} {next = next} h r e = subst (λ r. Runs rule n r p us x next) (omega (arith, e)) (raise (raise_to k h (q + k) refl))

  -- a run in some room
  abbrev pub Goes : {n : Part} → Rule Value Told n → List Token → Value n → Option Tok → Type 0
  Goes {n = n} p us x next = (room : ℕ) × Runs rule n room p us x next

  pub goes_in : {n m : Part} {f : Value m → Rule Value Told n} (us vs : List Token) {x : Value m} {y : Value n} {next : Option Tok} → Goes (rule m) us x (follows vs next) → Goes (f x) vs y next → Goes (part m f) (us ++ vs) y next
  goes_in us vs h g = (h.0 + g.0, parts us vs (raise_to g.0 h.1 (h.0 + g.0) refl) (raise_to h.0 g.1 (h.0 + g.0) (omega arith)))

  pub goes_out : {n : Part} {p : Rule Value Told n} {us : List Token} {x : Value n} {next : Option Tok} → Goes p us x next → Goes (leave p) us x next
  goes_out h = (h.0, leaves (raise h.1))

  pub goes_over : {n : Part} (o : Opens) {b : Tok → Bool} {f : Span → Rule Value Told n} {q : Rule Value Told n} {t : Token} {us : List Token} {x : Value n} {next : Option Tok} → b t.tok ≡ true → Goes (f t.span) us x next → Goes (when o b f q) (t ∷ us) x next
  goes_over keeps e h = (h.0, over kept e h.1)
  goes_over opens e h = (suc h.0, over opened e h.1)

  pub goes_by : {n : Part} (o : Opens) {c : Class} {find : Tok → Option (Told c)} {f : Told c → Span → Rule Value Told n} {q : Rule Value Told n} {a : Told c} {t : Token} {us : List Token} {x : Value n} {next : Option Tok} → find t.tok ≡ Some a → Goes (f a t.span) us x next → Goes (named o c find f q) (t ∷ us) x next
  goes_by keeps e h = (h.0, finds kept e h.1)
  goes_by opens e h = (suc h.0, finds opened e h.1)

  -- what a reader took without being stuck, it may take
  abbrev pub Taken : (n : Part) → ℕ → Rule Value Told n → List Token → Read (Value n) → Type 0
  Taken n room p ts (Ok x) = (prefix : List Token) × (ts ≡ prefix ++ x.1) × Runs rule n room p prefix x.0 (tok_at x.1)
  Taken n room p ts (Err e) = Unit {0}

  take_test : {n : Part} (room : ℕ) (p : Rule Value Told n) (ts : List Token) (c : Bool) (x y : Read (Value n)) → (c ≡ true → Taken n room p ts x) → (c ≡ false → Taken n room p ts y) → Taken n room p ts (if c then x else y)
  take_test room p ts true x y h g = h refl
  take_test room p ts false x y h g = g refl

  take_tale : {A : Type 0} {n : Part} (room : ℕ) (p : Rule Value Told n) (ts : List Token) (o : Option A) (y : Read (Value n)) (f : A → Read (Value n)) → (o ≡ None → Taken n room p ts y) → ((a : A) → o ≡ Some a → Taken n room p ts (f a)) → Taken n room p ts (on o y f)
  take_tale room p ts None y f h g = h refl
  take_tale room p ts (Some a) y f h g = g a refl

  take_over : {n : Part} {room r : ℕ} {o : Opens} (b : Tok → Bool) (f : Span → Rule Value Told n) (q : Rule Value Told n) (t : Token) (ts : List Token) (x : Read (Value n)) → Behind o room r → b t.tok ≡ true → Taken n r (f t.span) ts x → Taken n room (when o b f q) (t ∷ ts) x
  take_over b f q t ts (Ok x) k e h = (t ∷ h.0, ap (λ l. t ∷ l) h.1, over k e h.2)
  take_over b f q t ts (Err x) k e h = tt

  take_skip : {n : Part} (room : ℕ) (o : Opens) (b : Tok → Bool) (f : Span → Rule Value Told n) (q : Rule Value Told n) (ts : List Token) (x : Read (Value n)) → passes b (tok_at ts) ≡ false → Taken n room q ts x → Taken n room (when o b f q) ts x
  take_skip room o b f q ts (Ok x) e h = (h.0, h.1, skips (subst (λ o. passes b o ≡ false) (ap tok_at h.1 ∙ follow h.0 x.1) e) h.2)
  take_skip room o b f q ts (Err x) e h = tt

  take_find : {n : Part} {room r : ℕ} {o : Opens} (c : Class) (find : Tok → Option (Told c)) (f : Told c → Span → Rule Value Told n) (q : Rule Value Told n) (a : Told c) (t : Token) (ts : List Token) (x : Read (Value n)) → Behind o room r → find t.tok ≡ Some a → Taken n r (f a t.span) ts x → Taken n room (named o c find f q) (t ∷ ts) x
  take_find c find f q a t ts (Ok x) k e h = (t ∷ h.0, ap (λ l. t ∷ l) h.1, finds k e h.2)
  take_find c find f q a t ts (Err x) k e h = tt

  take_lack : {n : Part} (room : ℕ) (o : Opens) (c : Class) (find : Tok → Option (Told c)) (f : Told c → Span → Rule Value Told n) (q : Rule Value Told n) (ts : List Token) (x : Read (Value n)) → told find (tok_at ts) ≡ None → Taken n room q ts x → Taken n room (named o c find f q) ts x
  take_lack room o c find f q ts (Ok x) e h = (h.0, h.1, lacks (subst (λ o. told find o ≡ None) (ap tok_at h.1 ∙ follow h.0 x.1) e) h.2)
  take_lack room o c find f q ts (Err x) e h = tt

  take_sight : {n : Part} (room : ℕ) (b : Option Tok → Bool) (p q : Rule Value Told n) (ts : List Token) (x : Read (Value n)) → b (tok_at ts) ≡ true → Taken n room p ts x → Taken n room (ahead b p q) ts x
  take_sight room b p q ts (Ok x) e h = (h.0, h.1, sees (subst (λ o. b o ≡ true) (ap tok_at h.1 ∙ follow h.0 x.1) e) h.2)
  take_sight room b p q ts (Err x) e h = tt

  take_miss : {n : Part} (room : ℕ) (b : Option Tok → Bool) (p q : Rule Value Told n) (ts : List Token) (x : Read (Value n)) → b (tok_at ts) ≡ false → Taken n room q ts x → Taken n room (ahead b p q) ts x
  take_miss room b p q ts (Ok x) e h = (h.0, h.1, misses (subst (λ o. b o ≡ false) (ap tok_at h.1 ∙ follow h.0 x.1) e) h.2)
  take_miss room b p q ts (Err x) e h = tt

  take_leave : {n : Part} (room : ℕ) (p : Rule Value Told n) (ts : List Token) (o : Read (Value n)) → Taken n (suc room) p ts o → Taken n room (leave p) ts o
  take_leave room p ts (Ok x) h = (h.0, h.1, leaves h.2)
  take_leave room p ts (Err e) h = tt

  take_beyond : {n m : Part} (room : ℕ) (f : Value m → Rule Value Told n) (ts : List Token) (x : Value m × List Token) → Taken m room (rule m) ts (Ok x) → (o : Read (Value n)) → Taken n room (f x.0) x.1 o → Taken n room (part m f) ts o
  take_beyond {m = m} room f ts x h (Ok y) g = (h.0 ++ g.0, h.1 ∙ ap (λ l. h.0 ++ l) g.1 ∙ sym (append_assoc h.0 g.0 y.1), parts h.0 g.0 (subst (λ o. Runs rule m room (rule m) h.0 x.0 o) (ap tok_at g.1 ∙ follow g.0 y.1) h.2) g.2)
  take_beyond room f ts x h (Err e) g = tt

  take_part : (fuel : ℕ) {n m : Part} (room : ℕ) (f : Value m → Rule Value Told n) (ts : List Token) (o : Read (Value m)) → Taken m room (rule m) ts o
      → ((x : Value m) (us : List Token) → Taken n room (f x) us (step (read_by rule fuel) (f x) room us))
      → Taken n room (part m f) ts (o >>= λ x. step (read_by rule fuel) (f x.0) room x.1)
  take_part fuel room f ts (Ok x) h rest = take_beyond room f ts x h _ (rest x.0 x.1)
  take_part fuel room f ts (Err e) h rest = tt

  take_step : (fuel : ℕ) → ((m : Part) (room : ℕ) (us : List Token) → Taken m room (rule m) us (read_by rule fuel m room us)) → {n : Part} (p : Rule Value Told n) (room : ℕ) (ts : List Token) → Taken n room p ts (step (read_by rule fuel) p room ts)
  unfolding step
  take_step fuel ih (give x) room ts = ([], refl, gives)
  take_step fuel ih refuse room ts = tt
  take_step fuel ih leave_out room ts = tt
  take_step fuel ih (when o b f q) room [] = take_skip room o b f q [] _ refl (take_step fuel ih q room [])
  take_step fuel ih (when keeps b f q) room (t ∷ ts) = take_test room (when keeps b f q) (t ∷ ts) (b t.tok) _ _ (λ e. take_over b f q t ts _ kept e (take_step fuel ih (f t.span) room ts)) (λ e. take_skip room keeps b f q (t ∷ ts) _ e (take_step fuel ih q room (t ∷ ts)))
  take_step fuel ih (when opens b f q) zero (t ∷ ts) = take_test zero (when opens b f q) (t ∷ ts) (b t.tok) _ _ (λ e. tt) (λ e. take_skip zero opens b f q (t ∷ ts) _ e (take_step fuel ih q zero (t ∷ ts)))
  take_step fuel ih (when opens b f q) (suc room) (t ∷ ts) = take_test (suc room) (when opens b f q) (t ∷ ts) (b t.tok) _ _ (λ e. take_over b f q t ts _ opened e (take_step fuel ih (f t.span) room ts)) (λ e. take_skip (suc room) opens b f q (t ∷ ts) _ e (take_step fuel ih q (suc room) (t ∷ ts)))
  take_step fuel ih (named o c find f q) room [] = take_lack room o c find f q [] _ refl (take_step fuel ih q room [])
  take_step fuel ih (named keeps c find f q) room (t ∷ ts) = take_tale room (named keeps c find f q) (t ∷ ts) (find t.tok) _ _ (λ e. take_lack room keeps c find f q (t ∷ ts) _ e (take_step fuel ih q room (t ∷ ts))) (λ a e. take_find c find f q a t ts _ kept e (take_step fuel ih (f a t.span) room ts))
  take_step fuel ih (named opens c find f q) zero (t ∷ ts) = take_tale zero (named opens c find f q) (t ∷ ts) (find t.tok) _ _ (λ e. take_lack zero opens c find f q (t ∷ ts) _ e (take_step fuel ih q zero (t ∷ ts))) (λ a e. tt)
  take_step fuel ih (named opens c find f q) (suc room) (t ∷ ts) = take_tale (suc room) (named opens c find f q) (t ∷ ts) (find t.tok) _ _ (λ e. take_lack (suc room) opens c find f q (t ∷ ts) _ e (take_step fuel ih q (suc room) (t ∷ ts))) (λ a e. take_find c find f q a t ts _ opened e (take_step fuel ih (f a t.span) room ts))
  take_step fuel ih (ahead b p q) room ts = take_test room (ahead b p q) ts (b (tok_at ts)) _ _ (λ e. take_sight room b p q ts _ e (take_step fuel ih p room ts)) (λ e. take_miss room b p q ts _ e (take_step fuel ih q room ts))
  take_step fuel ih (leave p) room ts = take_leave room p ts _ (take_step fuel ih p (suc room) ts)
  take_step fuel ih (part m f) room ts = take_part fuel room f ts _ (ih m room ts) (λ x us. take_step fuel ih (f x) room us)

  take : (fuel : ℕ) (m : Part) (room : ℕ) (us : List Token) → Taken m room (rule m) us (read_by rule fuel m room us)
  unfolding read_by
  take zero m room us = tt
  take (suc fuel) m room us = take_step fuel (take fuel) (rule m) room us

  -- a reading that took all; where it did not, a run says so
  abbrev pub Finished : {A : Type 0} → Type 0 → Read A → Type 0
  Finished run (Ok (x, [])) = Unit {0}
  Finished run (Ok (x, (t ∷ rest))) = run
  Finished run (Err e) = run

  -- the rule may take just these tokens, and some value is given
  abbrev pub MayTake : {n : Part} → Rule Value Told n → List Token → Type 0
  MayTake {n = n} p more = (x : Value n) × Goes p more x None

  -- the rule may take just these tokens: a reader with fuel for a small file finds it out
  abbrev pub Done : {n : Part} → Rule Value Told n → List Token → Type 0
  Done p more = Finished (MayTake p more) (step (read_by rule 60) p 9 more)

  abbrev pub Completion : {n : Part} → Rule Value Told n → Type 0
  Completion p = (more : List Token) × Done p more

  finish : {n : Part} (p : Rule Value Told n) (ts : List Token) (o : Read (Value n)) → Taken n 9 p ts o → Finished (MayTake p ts) o → MayTake p ts
  finish {n = n} p ts (Ok (x, [])) h d = (x, (9, subst (λ l. Runs rule n 9 p l x None) (sym (h.1 ∙ append-nil h.0)) h.2))
  finish p ts (Ok (x, (t ∷ rest))) h d = d
  finish p ts (Err e) h d = d

  finished_by : {A : Type 0} {run : Type 0} → run → (o : Read A) → Finished run o
  finished_by r (Ok (x, [])) = tt
  finished_by r (Ok (x, (t ∷ rest))) = r
  finished_by r (Err e) = r

  -- a run finds it out too, where the number of tokens isn't known
  pub done_by : {n : Part} (p : Rule Value Told n) (more : List Token) → MayTake p more → Done p more
  done_by p more r = finished_by r (step (read_by rule 60) p 9 more)

  -- what a reader takes of a small file
  pub takes_step : {n : Part} (p : Rule Value Told n) (more rest : List Token) → Taken n 9 p (more ++ rest) (step (read_by rule 60) p 9 (more ++ rest))
  takes_step p more rest = take_step 60 (take 60) p 9 (more ++ rest)

  pub may_take : {n : Part} (p : Rule Value Told n) (more : List Token) → Done p more → MayTake p more
  may_take p more d = finish p more _ (take_step 60 (take 60) p 9 more) d

  -- What a grammar says of its parts: the tokens before which a part may end, wherever it may end before any;
  -- whether it takes a token at least; what its values are fit for; and whether it can be brought to the aim, a token,
  -- by some tokens more.
  module _ (MayEndBefore : Part → Option Tok → Type 0) (takes_token : Part → Bool) (IsUsable : (n : Part) → Value n → Type 0) (far : Part → Bool) (aim : Token) where
    -- it is so, or the grammar says so of a part
    abbrev pub Or : Bool → Type 0 → Type 0
    Or true A = Unit {0}
    Or false A = A

    -- the rule takes a token at least
    abbrev pub TakesToken : {n : Part} → Rule Value Told n → Type 0
    TakesToken (give x) = ⊥
    TakesToken refuse = Unit {0}
    TakesToken leave_out = Unit {0}
    TakesToken (when o b f q) = TakesToken q
    TakesToken (named o c find f q) = TakesToken q
    TakesToken (ahead b p q) = TakesToken p × TakesToken q
    TakesToken (leave p) = TakesToken p
    TakesToken (part m f) = Or (takes_token m) ((x : Value m) → TakesToken (f x))

    -- a way never lets the part end, or else is the way before each token before which the part may end
    pub data Steady {n : Part} (q : Rule Value Told n) (IsWay : Option Tok → Type 0) : Type 0 where
      never : TakesToken q → Steady q IsWay
      before_end : ((o : Option Tok) → MayEndBefore n o → IsWay o) → Steady q IsWay

    -- What follows the part m in one of n: nothing; or tokens, before the first of which m may end. Where none need follow, m may
    -- end wherever n may. Or else tokens that m can be brought to.
    pub data After (n m : Part) (f : Value m → Rule Value Told n) : Rule Value Told n → Type 0 where
      last : {x : Value n} → ((o : Option Tok) → MayEndBefore n o → MayEndBefore m o) → After n m f (give x)
      tokens : {p : Rule Value Told n} (more : List Token) → Done p more → MayEndBefore m (follows more None) → TakesToken p → After n m f p
      maybe : {p : Rule Value Told n} (more : List Token) → Done p more → MayEndBefore m (follows more None) → ((o : Option Tok) → MayEndBefore n o → MayEndBefore m o) → After n m f p
      brought : {p : Rule Value Told n} (more : List Token) → ((x : Value m) → Done (f x) more) → TakesToken p → far m ≡ true → Some aim.tok ≡ follows more None → After n m f p

    -- what a rule must keep to: after each token and each part there is a way on
    abbrev pub CanComplete : {n : Part} → Rule Value Told n → Type 0
    CanComplete {n = n} (give x) = IsUsable n x
    CanComplete refuse = Unit {0}
    CanComplete leave_out = Unit {0}
    CanComplete (when o b f q) = ((t : Tok) → b t ≡ true → (s : Span) → Completion (f s) × CanComplete (f s)) × Steady q (λ next. passes b next ≡ false) × CanComplete q
    CanComplete (named o c find f q) = ((t : Tok) (a : Told c) → find t ≡ Some a → (s : Span) → Completion (f a s) × CanComplete (f a s)) × Steady q (λ next. told find next ≡ None) × CanComplete q
    CanComplete (ahead b p q) = Steady p (λ next. b next ≡ true) × CanComplete p × Steady q (λ next. b next ≡ false) × CanComplete q
    CanComplete (leave p) = CanComplete p
    CanComplete {n = n} (part m f) = (x : Value m) → IsUsable m x → After n m f (f x) × CanComplete (f x)

    -- What has to hold of each part: those that may come first in it have lower ranks; it takes a token, where takes_token says
    -- so; some tokens are one; and after each token and each part of it there is a way on.
    pub record Facts (rank : Part → ℕ) (n : Part) : Type 0 where
      pub falls : Falls rank (rank n) (rule n)
      pub takes : Where (takes_token n) (TakesToken (rule n))
      pub complete : Completion (rule n)
      pub can_complete : CanComplete (rule n)

    module _ (takes : (n : Part) → takes_token n ≡ true → TakesToken (rule n)) (complete : (n : Part) → Completion (rule n)) (can_complete : (n : Part) → CanComplete (rule n)) where
      -- a rule that takes a token takes one
      part_takes : (b : Bool) (us vs : List Token) {A : Type 0} → (b ≡ true → HasToken us) → (A → HasToken vs) → Or b A → HasToken (us ++ vs)
      part_takes true us vs h g t = has_left us vs (h refl)
      part_takes false us vs h g t = has_right us vs (g t)

      pub takes_a_token : {n : Part} {q : ℕ} {p : Rule Value Told n} {us : List Token} {x : Value n} {next : Option Tok} → Runs rule n q p us x next → TakesToken p → HasToken us
      takes_a_token gives t = t
      takes_a_token (over k e h) t = tt
      takes_a_token (skips e h) t = takes_a_token h t
      takes_a_token (finds k e h) t = tt
      takes_a_token (lacks e h) t = takes_a_token h t
      takes_a_token (sees e h) t = takes_a_token h t.0
      takes_a_token (misses e h) t = takes_a_token h t.1
      takes_a_token (leaves h) t = takes_a_token h t
      takes_a_token (parts {m = m} us vs {x = x} h g) t = part_takes (takes_token m) us vs (λ e. takes_a_token h (takes m e)) (λ l. takes_a_token g (l x)) t

      -- the values are fit
      pub usable : {n : Part} {q : ℕ} {p : Rule Value Told n} {us : List Token} {x : Value n} {next : Option Tok} → Runs rule n q p us x next → CanComplete p → IsUsable n x
      usable gives l = l
      usable (over {t = t} k e h) l = usable h (l.0 t.tok e t.span).1
      usable (skips e h) l = usable h l.2
      usable (finds {a = a} {t = t} k e h) l = usable h (l.0 t.tok a e t.span).1
      usable (lacks e h) l = usable h l.2
      usable (sees e h) l = usable h l.1
      usable (misses e h) l = usable h l.3
      usable (leaves h) l = usable h l
      usable (parts {m = m} us vs {x = x} h g) l = usable g (l x (usable h (can_complete m))).1

      -- what ends before a token may also end before any other before which its part may end
      end_way : {n : Part} {q : ℕ} {p : Rule Value Told n} {IsWay : Option Tok → Type 0} {x : Value n} (other : Option Tok) → MayEndBefore n other → Steady p IsWay → Runs rule n q p [] x other → IsWay other
      end_way other c (never t) h = absurd (takes_a_token h t)
      end_way other c (before_end s) h = s other c

      end_part : {n m : Part} {f : Value m → Rule Value Told n} {q : ℕ} {p : Rule Value Told n} {y : Value n} (next other : Option Tok) → MayEndBefore n other → After n m f p → Runs rule n q p [] y other → MayEndBefore m other
      end_part next other c (last s) h = s other c
      end_part next other c (tokens more d cm t) h = absurd (takes_a_token h t)
      end_part next other c (maybe more d cm s) h = s other c
      end_part next other c (brought more d t e' b) h = absurd (takes_a_token h t)

      pub ends : {n : Part} {q : ℕ} {p : Rule Value Told n} {us : List Token} {x : Value n} {next : Option Tok} (other : Option Tok) → Runs rule n q p us x next → MayEndBefore n other → CanComplete p → Runs rule n q p us x other
      ends other gives c l = gives
      ends other (over {t = t} k e h) c l = over k e (ends other h c (l.0 t.tok e t.span).1)
      ends other (skips {ts = []} e h) c l = let g = ends other h c l.2 in skips (end_way other c l.1 g) g
      ends other (skips {ts = t ∷ ts} e h) c l = skips e (ends other h c l.2)
      ends other (finds {a = a} {t = t} k e h) c l = finds k e (ends other h c (l.0 t.tok a e t.span).1)
      ends other (lacks {ts = []} e h) c l = let g = ends other h c l.2 in lacks (end_way other c l.1 g) g
      ends other (lacks {ts = t ∷ ts} e h) c l = lacks e (ends other h c l.2)
      ends other (sees {ts = []} e h) c l = let g = ends other h c l.1 in sees (end_way other c l.0 g) g
      ends other (sees {ts = t ∷ ts} e h) c l = sees e (ends other h c l.1)
      ends other (misses {ts = []} e h) c l = let g = ends other h c l.3 in misses (end_way other c l.2 g) g
      ends other (misses {ts = t ∷ ts} e h) c l = misses e (ends other h c l.3)
      ends other (leaves h) c l = leaves (ends other h c l)
      ends other (parts {m = m} us [] {x = x} {next = next} h g) c l =
          let after = l x (usable h (can_complete m)) in
          let g' = ends other g c after.1 in
          parts us [] (ends other h (end_part next other c after.0 g') (can_complete m)) g'
      ends other (parts {m = m} us (t ∷ vs) {x = x} h g) c l = parts us (t ∷ vs) h (ends other g c (l x (usable h (can_complete m))).1)

      -- a part with these tokens, and with some more after them, before the aim
      abbrev pub Brought : (n : Part) → List Token → Type 0
      Brought n us = (more : List Token) × (y : Value n) × Goes (rule n) (us ++ more) y (Some aim.tok)

      module _ (bring : (n : Part) → far n ≡ true → (q : ℕ) (us : List Token) (x : Value n) (next : Option Tok) → Runs rule n q (rule n) us x next → Brought n us) where
        -- some tokens more make it whole
        abbrev Goal : {n : Part} → Rule Value Told n → List Token → Reason → List Token → Type 0
        Goal {n = n} p us why rest = (more : List Token) × (y : Value n) × Goes p ((us ++ allowed why rest) ++ more) y None

        by_completion : {n : Part} (p : Rule Value Told n) → Completion p → (more : List Token) × (y : Value n) × Goes p more y None
        by_completion p c = let h = may_take p c.0 c.1 in (c.0, h.0, h.1)

        from : (us : List Token) (why : Reason) (rest : List Token) {n : Part} {p : Rule Value Told n} → Completion p → (Begun us why rest → Goal p us why rest) → Goal p us why rest
        from [] syntax rest {p = p} c g = by_completion p c
        from [] left_out rest {p = p} c g = by_completion p c
        from [] too_deep [] {p = p} c g = by_completion p c
        from [] too_deep (t ∷ rest) c g = g tt
        from (t ∷ us) why rest c g = g tt

        -- a way on after a part
        abbrev Onward : {n m : Part} → (Value m → Rule Value Told n) → List Token → Type 0
        Onward {n = n} {m = m} f us = (more : List Token) × (y : Value n) × Goes (part m f) (us ++ more) y None

        onward_by : {n m : Part} (f : Value m → Rule Value Told n) (us : List Token) (x : Value m) {p : Rule Value Told n} {next : Option Tok} → f x ≡ p → (more : List Token) → (y : Value n) × Goes p more y None → MayEndBefore m (follows more None) → Goes (rule m) us x next → Onward f us
        onward_by {n = n} {m = m} f us x e more r c h =
            (more, r.0, goes_in us more (h.0, ends (follows more None) h.1 c (can_complete m)) (r.1.0, subst (λ p. Runs rule n r.1.0 p more r.0 None) (sym e) r.1.1))

        onward_brought : {n m : Part} (f : Value m → Rule Value Told n) (us more prefix : List Token) (y : Value m) → Goes (rule m) (us ++ prefix) y (follows more None) → (x : Value n) × Goes (f y) more x None → Onward f us
        onward_brought f us more prefix y h r = (prefix ++ more, r.0, subst (λ us. Goes (part _ f) us r.0 None) (append_assoc us prefix more) (goes_in (us ++ prefix) more h r.1))

        onward : {n m : Part} (f : Value m → Rule Value Told n) (us : List Token) (x : Value m) {p : Rule Value Told n} → f x ≡ p → After n m f p → Goes (rule m) us x None → Onward f us
        onward {n = n} f us x e (last {x = y} s) h = ([], y, goes_in us [] h (0, subst (λ p. Runs rule n 0 p [] y None) (sym e) gives))
        onward {n = n} {m = m} f us x {p = p} e (tokens more d c t) h = onward_by f us x e more (may_take p more d) c h
        onward {n = n} {m = m} f us x {p = p} e (maybe more d c s) h = onward_by f us x e more (may_take p more d) c h
        onward {n = n} {m = m} f us x e (brought more d t e' b) h = let r = bring m e' h.0 us x None h.1 in onward_brought f us more r.0 r.1 (r.2.0, subst (λ o. Runs rule m r.2.0 (rule m) (us ++ r.0) r.1 o) b r.2.1) (may_take (f r.1) more (d r.1))

        -- what stopped at once after a part was not at its end
        onward_refused : {n m : Part} (f : Value m → Rule Value Told n) (us : List Token) (x : Value m) {p : Rule Value Told n} {q room : ℕ} {vs : List Token} {why : Reason} {next there : Option Tok} → f x ≡ p → After n m f p → Runs rule m q (rule m) us x there → Refuses rule n room p vs why next → Onward f us
        onward_refused f us x e (last s) h g = elim g [ ]
        onward_refused f us x {p = p} {q = q} e (tokens more d c t) h g = onward_by f us x e more (may_take p more d) c (q, h)
        onward_refused f us x {p = p} {q = q} e (maybe more d c s) h g = onward_by f us x e more (may_take p more d) c (q, h)
        onward_refused {m = m} f us x {q = q} {there = there} e (brought more d t e' b) h g = let r = bring m e' q us x there h in onward_brought f us more r.0 r.1 (r.2.0, subst (λ o. Runs rule m r.2.0 (rule m) (us ++ r.0) r.1 o) b r.2.1) (may_take (f r.1) more (d r.1))

        beyond_from : {n m : Part} (f : Value m → Rule Value Told n) (us vs : List Token) (why : Reason) (rest : List Token) (x : Value m) {q : ℕ} {next : Option Tok} → tok_at rest ≡ next → After n m f (f x) → Runs rule m q (rule m) us x (follows vs next) → Refuses rule n q (f x) vs why next → (Begun vs why rest → Goal (f x) vs why rest) → (more : List Token) × (y : Value n) × Goes (part m f) (us ++ ((vs ++ allowed why rest) ++ more)) y None
        beyond_from f us [] syntax rest x e a h g ih = onward_refused f us x refl a h g
        beyond_from f us [] left_out rest x e a h g ih = onward_refused f us x refl a h g
        beyond_from f us [] too_deep [] x e a h g ih = onward_refused f us x refl a h g
        beyond_from {m = m} f us [] too_deep (t ∷ rest) x {q = q} e a h g ih = let r = ih tt in (r.0, r.1, goes_in us (t ∷ r.0) (q, subst (λ o. Runs rule m q (rule m) us x o) (sym e) h) r.2)
        beyond_from f us (t ∷ vs) why rest x {q = q} e a h g ih = let r = ih tt in (r.0, r.1, goes_in us (t ∷ ((vs ++ allowed why rest) ++ r.0)) (q, h) r.2)

        viable : {n : Part} {q : ℕ} {p : Rule Value Told n} {us : List Token} {why : Reason} {next : Option Tok} → Refuses rule n q p us why next → (rest : List Token) → tok_at rest ≡ next → CanComplete p → Begun us why rest → Goal p us why rest
        viable unfit rest e l b = absurd b
        viable unwanted rest e l b = absurd b
        viable (one_too_many k) [] e l b = absurd b
        viable (one_too_many {b = test} {f = f} k) (t ∷ rest) e l b =
            let here : test t.tok ≡ true = ap (passes test) e ∙ k in
            let r = by_completion (f t.span) (l.0 t.tok here t.span).0 in
            (r.0, r.1, goes_over opens here r.2)
        viable (one_name_too_many k) [] e l b = absurd b
        viable (one_name_too_many {find = find} {f = f} {a = a} k) (t ∷ rest) e l b =
            let here : find t.tok ≡ Some a = ap (told find) e ∙ k in
            let r = by_completion (f a t.span) (l.0 t.tok a here t.span).0 in
            (r.0, r.1, goes_by opens here r.2)
        viable (behind_over {o = o} {t = t} {ts = ts} {why = why} k e' h) rest e l b =
            let r = from ts why rest (l.0 t.tok e' t.span).0 (viable h rest e (l.0 t.tok e' t.span).1) in
            (r.0, r.1, goes_over o e' r.2)
        viable (behind_skip {b = test} {ts = ts} {why = why} {next = next} k h) rest e l b =
            let r = viable h rest e l.2 b in
            (r.0, r.1, (r.2.0, skips (subst (λ o. passes test o ≡ false) (same_prefix ts why rest r.0 next None e b) k) r.2.1))
        viable (behind_find {o = o} {a = a} {t = t} {ts = ts} {why = why} k e' h) rest e l b =
            let r = from ts why rest (l.0 t.tok a e' t.span).0 (viable h rest e (l.0 t.tok a e' t.span).1) in
            (r.0, r.1, goes_by o e' r.2)
        viable (behind_lack {find = find} {ts = ts} {why = why} {next = next} k h) rest e l b =
            let r = viable h rest e l.2 b in
            (r.0, r.1, (r.2.0, lacks (subst (λ o. told find o ≡ None) (same_prefix ts why rest r.0 next None e b) k) r.2.1))
        viable (behind_sight {b = test} {ts = ts} {why = why} {next = next} k h) rest e l b =
            let r = viable h rest e l.1 b in
            (r.0, r.1, (r.2.0, sees (subst (λ o. test o ≡ true) (same_prefix ts why rest r.0 next None e b) k) r.2.1))
        viable (behind_miss {b = test} {ts = ts} {why = why} {next = next} k h) rest e l b =
            let r = viable h rest e l.3 b in
            (r.0, r.1, (r.2.0, misses (subst (λ o. test o ≡ false) (same_prefix ts why rest r.0 next None e b) k) r.2.1))
        viable (behind_leave h) rest e l b = let r = viable h rest e l b in (r.0, r.1, goes_out r.2)
        viable (within {m = m} {f = f} {ts = ts} {why = why} h) rest e l b =
            let r = from ts why rest (complete m) (viable h rest e (can_complete m)) in
            let g = onward f ((ts ++ allowed why rest) ++ r.0) r.1 refl (l r.1 (usable r.2.1 (can_complete m))).0 r.2 in
            (r.0 ++ g.0, g.1, subst (λ us. Goes (part m f) us g.1 None) (append_assoc (ts ++ allowed why rest) r.0 g.0) g.2)
        viable (beyond {m = m} {f = f} us vs {x = x} {why = why} h g) rest e l b =
            let after = l x (usable h (can_complete m)) in
            let r = beyond_from f us vs why rest x e after.0 h g (viable g rest e after.1) in
            (r.0, r.1, subst (λ us. Goes (part m f) us r.1 None) (sym (append_assoc us (vs ++ allowed why rest) r.0) ∙ ap (λ us. us ++ r.0) (sym (append_assoc us vs (allowed why rest)))) r.2)

        -- some part begins with the tokens before a fault, and with the one that is one too many
        pub some_part : (n : Part) {q : ℕ} (us : List Token) (why : Reason) (rest : List Token) → Refuses rule n q (rule n) us why (tok_at rest) → (more : List Token) × (y : Value n) × Goes (rule n) ((us ++ allowed why rest) ++ more) y None
        some_part n us why rest h = from us why rest (complete n) (viable h rest refl (can_complete n))
