-- A reader by rules takes what the grammar allows, and stops where nothing else is possible.
use Rattle.std.proofs.Common.{◌≡◌, ℕ, zero, suc, List, [], ◌∷◌, ◌++◌, ◌≤◌, ◌<◌, ◌+◌, refl, sym, ap, ◌∙◌, subst, append_assoc, arith, Bool, true, false, Option}
use Rattle.std.specs.Prelude.{Ok, Err, Some, None, if◌then◌else◌}
use Rattle.mz_base.specs.declared.fault.Span.{Span}
use Rattle.mz_lexer.specs.declared.token.Token.{Token}
use Rattle.mz_lexer.specs.declared.token.Tok.{Tok}
use Rattle.mz_grammar.specs.Tokens.{tok_at, follows, passes, told}
use Rattle.mz_grammar.specs.Rules.{Reason, too_deep, Opens, keeps, opens, Rule, give, refuse, leave_out, when, named, ahead, leave, part, Behind, kept, opened, Runs, gives, over, skips, finds, lacks, sees, misses, leaves, parts, Refuses, unfit, unwanted, one_too_many, one_name_too_many, behind_over, behind_skip, behind_find, behind_lack, behind_sight, behind_miss, behind_leave, within, beyond}
use Rattle.mz_grammar.specs.RulesReading.{Read, Reader, stuck, on, ◌>>=◌, step, read_by, weight, Falls, read}
use Rattle.mz_grammar.proofs.Steps.{same_if, same_on}

pub follow : (f rest : List Token) → tok_at (f ++ rest) ≡ follows f (tok_at rest)
follow [] rest = refl
follow (t ∷ f) rest = refl

weight_prefix : (w : ℕ) (us rest : List Token) → weight w rest ≤ weight w (us ++ rest)
weight_prefix w [] rest = omega arith
weight_prefix w (t ∷ us) rest = let h = weight_prefix w us rest in omega arith

pub if_true : {A : Type 0} (c : Bool) (x y : A) → c ≡ true → (if c then x else y) ≡ x
if_true true x y e = refl
if_true false x y e = absurd (cc)

pub if_false : {A : Type 0} (c : Bool) (x y : A) → c ≡ false → (if c then x else y) ≡ y
if_false true x y e = absurd (cc)
if_false false x y e = refl

pub if_some : {A B : Type 0} (o : Option A) {a : A} (y : B) (f : A → B) → o ≡ Some a → on o y f ≡ f a
if_some o y f e = ap (λ o. on o y f) e

pub if_none : {A B : Type 0} (o : Option A) (y : B) (f : A → B) → o ≡ None → on o y f ≡ y
if_none o y f e = ap (λ o. on o y f) e

module _ {Part Class : Type 0} {Value : Part → Type 0} {Told : Class → Type 0} (rule : (n : Part) → Rule Value Told n) (rank : Part → ℕ) (width : ℕ) (low : (n : Part) → rank n < width) (falls : (n : Part) → Falls rank (rank n) (rule n)) where
  -- after a token, any part is one further down
  all_fall : {n : Part} (p : Rule Value Told n) → Falls rank width p
  all_fall (give x) = tt
  all_fall refuse = tt
  all_fall leave_out = tt
  all_fall (when o b f q) = all_fall q
  all_fall (named o c find f q) = all_fall q
  all_fall (ahead b p q) = (all_fall p, all_fall q)
  all_fall (leave p) = all_fall p
  all_fall (part m f) = (low m, λ x. all_fall (f x))

  -- what a reader's answer says of the tokens
  abbrev pub Outcome : (n : Part) → ℕ → Rule Value Told n → List Token → Read (Value n) → Type 0
  Outcome n room p ts (Ok x) = (prefix : List Token) × (ts ≡ prefix ++ x.1) × Runs rule n room p prefix x.0 (tok_at x.1)
  Outcome n room p ts (Err e) = (prefix : List Token) × (ts ≡ prefix ++ e.rest) × Refuses rule n room p prefix e.why (tok_at e.rest)

  abbrev Sound : ℕ → Type 0
  Sound fuel = (m : Part) (room : ℕ) (us : List Token) → weight width us + rank m < fuel → Outcome m room (rule m) us (read_by rule fuel m room us)

  -- by a test, or by what a token tells
  by_test : {n : Part} (room : ℕ) (p : Rule Value Told n) (ts : List Token) (c : Bool) (x y : Read (Value n)) → (c ≡ true → Outcome n room p ts x) → (c ≡ false → Outcome n room p ts y) → Outcome n room p ts (if c then x else y)
  by_test room p ts true x y h g = h refl
  by_test room p ts false x y h g = g refl

  by_tale : {A : Type 0} {n : Part} (room : ℕ) (p : Rule Value Told n) (ts : List Token) (o : Option A) (y : Read (Value n)) (f : A → Read (Value n)) → (o ≡ None → Outcome n room p ts y) → ((a : A) → o ≡ Some a → Outcome n room p ts (f a)) → Outcome n room p ts (on o y f)
  by_tale room p ts None y f h g = h refl
  by_tale room p ts (Some a) y f h g = g a refl

  gone_over : {n : Part} {room r : ℕ} {o : Opens} (b : Tok → Bool) (f : Span → Rule Value Told n) (q : Rule Value Told n) (t : Token) (ts : List Token) (x : Read (Value n)) → Behind o room r → b t.tok ≡ true → Outcome n r (f t.span) ts x → Outcome n room (when o b f q) (t ∷ ts) x
  gone_over b f q t ts (Ok x) k e h = (t ∷ h.0, ap (λ l. t ∷ l) h.1, over k e h.2)
  gone_over b f q t ts (Err x) k e h = (t ∷ h.0, ap (λ l. t ∷ l) h.1, behind_over k e h.2)

  skipped : {n : Part} (room : ℕ) (o : Opens) (b : Tok → Bool) (f : Span → Rule Value Told n) (q : Rule Value Told n) (ts : List Token) (x : Read (Value n)) → passes b (tok_at ts) ≡ false → Outcome n room q ts x → Outcome n room (when o b f q) ts x
  skipped room o b f q ts (Ok x) e h = (h.0, h.1, skips (subst (λ o. passes b o ≡ false) (ap tok_at h.1 ∙ follow h.0 x.1) e) h.2)
  skipped room o b f q ts (Err x) e h = (h.0, h.1, behind_skip (subst (λ o. passes b o ≡ false) (ap tok_at h.1 ∙ follow h.0 x.rest) e) h.2)

  found : {n : Part} {room r : ℕ} {o : Opens} (c : Class) (find : Tok → Option (Told c)) (f : Told c → Span → Rule Value Told n) (q : Rule Value Told n) (a : Told c) (t : Token) (ts : List Token) (x : Read (Value n)) → Behind o room r → find t.tok ≡ Some a → Outcome n r (f a t.span) ts x → Outcome n room (named o c find f q) (t ∷ ts) x
  found c find f q a t ts (Ok x) k e h = (t ∷ h.0, ap (λ l. t ∷ l) h.1, finds k e h.2)
  found c find f q a t ts (Err x) k e h = (t ∷ h.0, ap (λ l. t ∷ l) h.1, behind_find k e h.2)

  lacked : {n : Part} (room : ℕ) (o : Opens) (c : Class) (find : Tok → Option (Told c)) (f : Told c → Span → Rule Value Told n) (q : Rule Value Told n) (ts : List Token) (x : Read (Value n)) → told find (tok_at ts) ≡ None → Outcome n room q ts x → Outcome n room (named o c find f q) ts x
  lacked room o c find f q ts (Ok x) e h = (h.0, h.1, lacks (subst (λ o. told find o ≡ None) (ap tok_at h.1 ∙ follow h.0 x.1) e) h.2)
  lacked room o c find f q ts (Err x) e h = (h.0, h.1, behind_lack (subst (λ o. told find o ≡ None) (ap tok_at h.1 ∙ follow h.0 x.rest) e) h.2)

  seen_ahead : {n : Part} (room : ℕ) (b : Option Tok → Bool) (p q : Rule Value Told n) (ts : List Token) (x : Read (Value n)) → b (tok_at ts) ≡ true → Outcome n room p ts x → Outcome n room (ahead b p q) ts x
  seen_ahead room b p q ts (Ok x) e h = (h.0, h.1, sees (subst (λ o. b o ≡ true) (ap tok_at h.1 ∙ follow h.0 x.1) e) h.2)
  seen_ahead room b p q ts (Err x) e h = (h.0, h.1, behind_sight (subst (λ o. b o ≡ true) (ap tok_at h.1 ∙ follow h.0 x.rest) e) h.2)

  missed : {n : Part} (room : ℕ) (b : Option Tok → Bool) (p q : Rule Value Told n) (ts : List Token) (x : Read (Value n)) → b (tok_at ts) ≡ false → Outcome n room q ts x → Outcome n room (ahead b p q) ts x
  missed room b p q ts (Ok x) e h = (h.0, h.1, misses (subst (λ o. b o ≡ false) (ap tok_at h.1 ∙ follow h.0 x.1) e) h.2)
  missed room b p q ts (Err x) e h = (h.0, h.1, behind_miss (subst (λ o. b o ≡ false) (ap tok_at h.1 ∙ follow h.0 x.rest) e) h.2)

  left : {n : Part} (room : ℕ) (p : Rule Value Told n) (ts : List Token) (o : Read (Value n)) → Outcome n (suc room) p ts o → Outcome n room (leave p) ts o
  left room p ts (Ok x) h = (h.0, h.1, leaves h.2)
  left room p ts (Err e) h = (h.0, h.1, behind_leave h.2)

  beyond_part : {n m : Part} (room : ℕ) (f : Value m → Rule Value Told n) (ts : List Token) (x : Value m) (mid : List Token) → Outcome m room (rule m) ts (Ok (x, mid)) → (o : Read (Value n)) → Outcome n room (f x) mid o → Outcome n room (part m f) ts o
  beyond_part {n = n} {m = m} room f ts x mid h (Ok y) g = (h.0 ++ g.0, h.1 ∙ ap (λ l. h.0 ++ l) g.1 ∙ sym (append_assoc h.0 g.0 y.1), parts h.0 g.0 (subst (λ o. Runs rule m room (rule m) h.0 x o) (ap tok_at g.1 ∙ follow g.0 y.1) h.2) g.2)
  beyond_part {n = n} {m = m} room f ts x mid h (Err e) g = (h.0 ++ g.0, h.1 ∙ ap (λ l. h.0 ++ l) g.1 ∙ sym (append_assoc h.0 g.0 e.rest), beyond h.0 g.0 (subst (λ o. Runs rule m room (rule m) h.0 x o) (ap tok_at g.1 ∙ follow g.0 e.rest) h.2) g.2)

  in_part : (fuel : ℕ) {n m : Part} (room r : ℕ) (f : Value m → Rule Value Told n) (ts : List Token) (o : Read (Value m)) → Outcome m room (rule m) ts o
      → ((x : Value m) (us : List Token) → weight width us ≤ weight width ts → Outcome n room (f x) us (step (read_by rule fuel) (f x) room us))
      → Outcome n room (part m f) ts (o >>= λ x. step (read_by rule fuel) (f x.0) room x.1)
  in_part fuel room r f ts (Ok x) h rest = beyond_part room f ts x.0 x.1 h _ (rest x.0 x.1 (subst (λ l. weight width x.1 ≤ weight width l) (sym h.1) (weight_prefix width h.0 x.1)))
  in_part fuel room r f ts (Err e) h rest = (h.0, h.1, within h.2)

  sound_step : (fuel : ℕ) → Sound fuel → {n : Part} (p : Rule Value Told n) (r room : ℕ) (ts : List Token) → Falls rank r p → weight width ts + r ≤ fuel → Outcome n room p ts (step (read_by rule fuel) p room ts)
  unfolding step
  sound_step fuel ih (give x) r room ts d l = ([], refl, gives)
  sound_step fuel ih refuse r room ts d l = ([], refl, unfit)
  sound_step fuel ih leave_out r room ts d l = ([], refl, unwanted)
  sound_step fuel ih (when o b f q) r room [] d l = skipped room o b f q [] _ refl (sound_step fuel ih q r room [] d l)
  sound_step fuel ih (when keeps b f q) r room (t ∷ ts) d l =
      by_test room (when keeps b f q) (t ∷ ts) (b t.tok) _ _ (λ e. gone_over b f q t ts _ kept e (sound_step fuel ih (f t.span) width room ts (all_fall (f t.span)) (omega arith))) (λ e. skipped room keeps b f q (t ∷ ts) _ e (sound_step fuel ih q r room (t ∷ ts) d l))
  sound_step fuel ih (when opens b f q) r zero (t ∷ ts) d l =
      by_test zero (when opens b f q) (t ∷ ts) (b t.tok) _ _ (λ e. ([], refl, one_too_many e)) (λ e. skipped zero opens b f q (t ∷ ts) _ e (sound_step fuel ih q r zero (t ∷ ts) d l))
  sound_step fuel ih (when opens b f q) r (suc room) (t ∷ ts) d l =
      by_test (suc room) (when opens b f q) (t ∷ ts) (b t.tok) _ _ (λ e. gone_over b f q t ts _ opened e (sound_step fuel ih (f t.span) width room ts (all_fall (f t.span)) (omega arith))) (λ e. skipped (suc room) opens b f q (t ∷ ts) _ e (sound_step fuel ih q r (suc room) (t ∷ ts) d l))
  sound_step fuel ih (named o c find f q) r room [] d l = lacked room o c find f q [] _ refl (sound_step fuel ih q r room [] d l)
  sound_step fuel ih (named keeps c find f q) r room (t ∷ ts) d l =
      by_tale room (named keeps c find f q) (t ∷ ts) (find t.tok) _ _ (λ e. lacked room keeps c find f q (t ∷ ts) _ e (sound_step fuel ih q r room (t ∷ ts) d l)) (λ a e. found c find f q a t ts _ kept e (sound_step fuel ih (f a t.span) width room ts (all_fall (f a t.span)) (omega arith)))
  sound_step fuel ih (named opens c find f q) r zero (t ∷ ts) d l =
      by_tale zero (named opens c find f q) (t ∷ ts) (find t.tok) _ _ (λ e. lacked zero opens c find f q (t ∷ ts) _ e (sound_step fuel ih q r zero (t ∷ ts) d l)) (λ a e. ([], refl, one_name_too_many e))
  sound_step fuel ih (named opens c find f q) r (suc room) (t ∷ ts) d l =
      by_tale (suc room) (named opens c find f q) (t ∷ ts) (find t.tok) _ _ (λ e. lacked (suc room) opens c find f q (t ∷ ts) _ e (sound_step fuel ih q r (suc room) (t ∷ ts) d l)) (λ a e. found c find f q a t ts _ opened e (sound_step fuel ih (f a t.span) width room ts (all_fall (f a t.span)) (omega arith)))
  sound_step fuel ih (ahead b p q) r room ts d l =
      by_test room (ahead b p q) ts (b (tok_at ts)) _ _ (λ e. seen_ahead room b p q ts _ e (sound_step fuel ih p r room ts d.0 l)) (λ e. missed room b p q ts _ e (sound_step fuel ih q r room ts d.1 l))
  sound_step fuel ih (leave p) r room ts d l = left room p ts _ (sound_step fuel ih p r (suc room) ts d l)
  sound_step fuel ih (part m f) r room ts d l = in_part fuel room r f ts _ (ih m room ts (omega (arith, d.0))) (λ x us le. sound_step fuel ih (f x) r room us (d.1 x) (omega arith))

  pub sound : (fuel : ℕ) → Sound fuel
  unfolding read_by
  sound zero m room us l = absurd (omega arith)
  sound (suc fuel) m room us l = sound_step fuel (sound fuel) (rule m) (rank m) room us (falls m) (omega arith)

  -- A reading gives the value and leaves the rest; or a token is one too many, as it can be only with less room than n.
  pub data Reaches {A : Type 0} (room n : ℕ) (x : A) (rest : List Token) (o : Read A) : Type 0 where
    reached : o ≡ Ok (x, rest) → Reaches room n x rest o
    too_much : (r : List Token) → o ≡ stuck too_deep r → room < n → Reaches room n x rest o

  onward : {A B : Type 0} {room n : ℕ} {x : A} {mid : List Token} {o : Read A} (y : B) (rest : List Token) (f : A × List Token → Read B) → Reaches room n x mid o → Reaches room n y rest (f (x, mid)) → Reaches room n y rest (o >>= f)
  onward y rest f (reached e) h = subst (Reaches _ _ y rest) (sym (ap (λ o. o >>= f) e)) h
  onward y rest f (too_much r e d) h = too_much r (ap (λ o. o >>= f) e) d

  deeper : {A : Type 0} {room n : ℕ} {x : A} {rest : List Token} {o : Read A} → Reaches room n x rest o → Reaches (suc room) (suc n) x rest o
  deeper (reached e) = reached e
  deeper (too_much r e d) = too_much r e (omega arith)

  shallower : {A : Type 0} {room n : ℕ} {x : A} {rest : List Token} {o : Read A} → Reaches (suc room) (suc n) x rest o → Reaches room n x rest o
  shallower (reached e) = reached e
  shallower (too_much r e d) = too_much r e (omega arith)

  pub seen : (us rest : List Token) (next : Option Tok) → tok_at rest ≡ next → tok_at (us ++ rest) ≡ follows us next
  seen [] rest next h = h
  seen (t ∷ us) rest next h = refl

  reached_by : {A : Type 0} {room n : ℕ} {x : A} {rest : List Token} {o p : Read A} → o ≡ p → Reaches room n x rest p → Reaches room n x rest o
  reached_by {room = room} {n = n} {x = x} {rest = rest} e h = subst (Reaches room n x rest) (sym e) h

  -- what is allowed is read, wherever it may end
  reaches : {n : Part} {q : ℕ} {p : Rule Value Told n} {us : List Token} {x : Value n} {next : Option Tok} → Runs rule n q p us x next → (fuel r room : ℕ) (rest : List Token) → tok_at rest ≡ next → Falls rank r p → weight width (us ++ rest) + r ≤ fuel → Reaches room q x rest (step (read_by rule fuel) p room (us ++ rest))
  unfolding step read_by
  reaches gives fuel r room rest e d l = reached refl
  reaches (over {b = b} {f = f} {t = t} {ts = ts} kept k h) fuel r room rest e d l = reached_by (if_true (b t.tok) _ _ k) (reaches h fuel width room rest e (all_fall (f t.span)) (omega arith))
  reaches (over {b = b} {f = f} {t = t} {ts = ts} opened k h) fuel r zero rest e d l = reached_by (if_true (b t.tok) _ _ k) (too_much (t ∷ (ts ++ rest)) refl (omega arith))
  reaches (over {b = b} {f = f} {t = t} {ts = ts} opened k h) fuel r (suc room) rest e d l = reached_by (if_true (b t.tok) _ _ k) (deeper (reaches h fuel width room rest e (all_fall (f t.span)) (omega arith)))
  reaches (skips {b = b} {ts = ts} {next = next} k h) fuel r room rest e d l = reached_by (if_false (passes b (tok_at (ts ++ rest))) _ _ (ap (passes b) (seen ts rest next e) ∙ k)) (reaches h fuel r room rest e d l)
  reaches (finds {find = find} {f = f} {a = a} {t = t} {ts = ts} kept k h) fuel r room rest e d l = reached_by (if_some (find t.tok) _ _ k) (reaches h fuel width room rest e (all_fall (f a t.span)) (omega arith))
  reaches (finds {find = find} {f = f} {a = a} {t = t} {ts = ts} opened k h) fuel r zero rest e d l = reached_by (if_some (find t.tok) _ _ k) (too_much (t ∷ (ts ++ rest)) refl (omega arith))
  reaches (finds {find = find} {f = f} {a = a} {t = t} {ts = ts} opened k h) fuel r (suc room) rest e d l = reached_by (if_some (find t.tok) _ _ k) (deeper (reaches h fuel width room rest e (all_fall (f a t.span)) (omega arith)))
  reaches (lacks {find = find} {ts = ts} {next = next} k h) fuel r room rest e d l = reached_by (if_none (told find (tok_at (ts ++ rest))) _ _ (ap (told find) (seen ts rest next e) ∙ k)) (reaches h fuel r room rest e d l)
  reaches (sees {b = b} {ts = ts} {next = next} k h) fuel r room rest e d l = reached_by (if_true (b (tok_at (ts ++ rest))) _ _ (ap b (seen ts rest next e) ∙ k)) (reaches h fuel r room rest e d.0 l)
  reaches (misses {b = b} {ts = ts} {next = next} k h) fuel r room rest e d l = reached_by (if_false (b (tok_at (ts ++ rest))) _ _ (ap b (seen ts rest next e) ∙ k)) (reaches h fuel r room rest e d.1 l)
  reaches (leaves h) fuel r room rest e d l = shallower (reaches h fuel r (suc room) rest e d l)
  reaches (parts {m = m} {f = f} us vs {x = x} {y = y} {next = next} h g) zero r room rest e d l = absurd (omega (arith, d.0))
  reaches (parts {m = m} {room = q} {f = f} us vs {x = x} {y = y} {next = next} h g) (suc fuel) r room rest e d l =
      let there : us ++ (vs ++ rest) ≡ (us ++ vs) ++ rest = sym (append_assoc us vs rest) in
      rw (append_assoc) (onward y rest (λ x. step (read_by rule (suc fuel)) (f x.0) room x.1)
      (reaches h fuel (rank m) room (vs ++ rest) (seen vs rest next e) (falls m) (rw (there) (omega (arith, d.0))))
      (reaches g (suc fuel) r room rest e (d.1 x) (let w = weight_prefix width us (vs ++ rest) in let eq = ap (weight width) there in omega (arith, w, eq))))

  enough : {A : Type 0} {room : ℕ} {x : A} {rest : List Token} {o : Read A} → Reaches room room x rest o → o ≡ Ok (x, rest)
  enough (reached e) = e
  enough (too_much r e d) = absurd (omega arith)

  -- what is refused is refused again, wherever such a token stands
  refuses : {n : Part} {q : ℕ} {p : Rule Value Told n} {us : List Token} {why : Reason} {next : Option Tok} → Refuses rule n q p us why next → (fuel r : ℕ) (rest : List Token) → tok_at rest ≡ next → Falls rank r p → weight width (us ++ rest) + r ≤ fuel → step (read_by rule fuel) p q (us ++ rest) ≡ stuck why rest
  unfolding step read_by
  refuses unfit fuel r rest e d l = refl
  refuses unwanted fuel r rest e d l = refl
  refuses (one_too_many k) fuel r [] e d l = cc
  refuses (one_too_many {b = b} {t = t} k) fuel r (u ∷ rest) e d l = if_true (b u.tok) _ _ (ap (passes b) e ∙ k)
  refuses (one_name_too_many k) fuel r [] e d l = cc
  refuses (one_name_too_many {find = find} {t = t} k) fuel r (u ∷ rest) e d l = if_some (find u.tok) _ _ (ap (told find) e ∙ k)
  refuses (behind_over {b = b} {f = f} {t = t} kept k h) fuel r rest e d l = if_true (b t.tok) _ _ k ∙ refuses h fuel width rest e (all_fall (f t.span)) (omega arith)
  refuses (behind_over {b = b} {f = f} {t = t} opened k h) fuel r rest e d l = if_true (b t.tok) _ _ k ∙ refuses h fuel width rest e (all_fall (f t.span)) (omega arith)
  refuses (behind_skip {b = b} {ts = ts} {next = next} k h) fuel r rest e d l = if_false (passes b (tok_at (ts ++ rest))) _ _ (ap (passes b) (seen ts rest next e) ∙ k) ∙ refuses h fuel r rest e d l
  refuses (behind_find {find = find} {f = f} {a = a} {t = t} kept k h) fuel r rest e d l = if_some (find t.tok) _ _ k ∙ refuses h fuel width rest e (all_fall (f a t.span)) (omega arith)
  refuses (behind_find {find = find} {f = f} {a = a} {t = t} opened k h) fuel r rest e d l = if_some (find t.tok) _ _ k ∙ refuses h fuel width rest e (all_fall (f a t.span)) (omega arith)
  refuses (behind_lack {find = find} {ts = ts} {next = next} k h) fuel r rest e d l = if_none (told find (tok_at (ts ++ rest))) _ _ (ap (told find) (seen ts rest next e) ∙ k) ∙ refuses h fuel r rest e d l
  refuses (behind_sight {b = b} {ts = ts} {next = next} k h) fuel r rest e d l = if_true (b (tok_at (ts ++ rest))) _ _ (ap b (seen ts rest next e) ∙ k) ∙ refuses h fuel r rest e d.0 l
  refuses (behind_miss {b = b} {ts = ts} {next = next} k h) fuel r rest e d l = if_false (b (tok_at (ts ++ rest))) _ _ (ap b (seen ts rest next e) ∙ k) ∙ refuses h fuel r rest e d.1 l
  refuses (behind_leave h) fuel r rest e d l = refuses h fuel r rest e d l
  refuses (within {m = m} {f = f} h) zero r rest e d l = absurd (omega (arith, d.0))
  refuses (within {m = m} {room = q} {f = f} h) (suc fuel) r rest e d l = ap (λ o. o >>= λ x. step (read_by rule (suc fuel)) (f x.0) q x.1) (refuses h fuel (rank m) rest e (falls m) (omega (arith, d.0)))
  refuses (beyond {m = m} {f = f} us vs {x = x} {next = next} h g) zero r rest e d l = absurd (omega (arith, d.0))
  refuses (beyond {m = m} {room = q} {f = f} us vs {x = x} {next = next} h g) (suc fuel) r rest e d l =
      let there : us ++ (vs ++ rest) ≡ (us ++ vs) ++ rest = sym (append_assoc us vs rest) in
      rw (append_assoc) (ap (λ o. o >>= λ x. step (read_by rule (suc fuel)) (f x.0) q x.1) (enough (reaches h fuel (rank m) q (vs ++ rest) (seen vs rest next e) (falls m) (rw (there) (omega (arith, d.0)))))
      ∙ refuses g (suc fuel) r rest e (d.1 x) (let w = weight_prefix width us (vs ++ rest) in let eq = ap (weight width) there in omega (arith, w, eq)))

  -- what is read does not depend on the fuel, where there is enough
  abbrev reads : (n : Part) → ℕ → Reader (Value n)
  reads = read rule rank width

  fueled : (fuel : ℕ) (n : Part) (room : ℕ) (ts : List Token) → weight width ts + rank n < fuel → read_by rule fuel n room ts ≡ reads n room ts
  unfolding read_by
  fueled zero n room ts l = absurd (omega arith)
  fueled (suc fuel) n room ts l = go _ (sound (suc fuel) n room ts l)
    where
      go : (o : Read (Value n)) → Outcome n room (rule n) ts o → o ≡ reads n room ts
      go (Ok x) h = sym (ap (step (read_by rule (weight width ts + rank n)) (rule n) room) h.1 ∙ enough (reaches h.2 (weight width ts + rank n) (rank n) room x.1 refl (falls n) (rw (sym h.1) (omega arith))))
      go (Err e) h = sym (ap (step (read_by rule (weight width ts + rank n)) (rule n) room) h.1 ∙ refuses h.2 (weight width ts + rank n) (rank n) e.rest refl (falls n) (rw (sym h.1) (omega arith)))

  same_behind : (fuel : ℕ) {n m : Part} (q : ℕ) (f : Value m → Rule Value Told n) (us : List Token) (o : Read (Value m)) → Outcome m q (rule m) us o
      → ((x : Value m) (vs : List Token) → weight width vs ≤ weight width us → step (read_by rule fuel) (f x) q vs ≡ step reads (f x) q vs)
      → (o >>= λ x. step (read_by rule fuel) (f x.0) q x.1) ≡ (o >>= λ x. step reads (f x.0) q x.1)
  same_behind fuel q f us (Ok x) h rest = rest x.0 x.1 (subst (λ l. weight width x.1 ≤ weight width l) (sym h.1) (weight_prefix width h.0 x.1))
  same_behind fuel q f us (Err e) h rest = refl

  same_step : (fuel : ℕ) {n : Part} (p : Rule Value Told n) (r q : ℕ) (us : List Token) → Falls rank r p → weight width us + r ≤ fuel → step (read_by rule fuel) p q us ≡ step reads p q us
  unfolding step
  same_step fuel (give x) r q us d l = refl
  same_step fuel refuse r q us d l = refl
  same_step fuel leave_out r q us d l = refl
  same_step fuel (when o b f q) r room [] d l = same_step fuel q r room [] d l
  same_step fuel (when keeps b f q) r room (t ∷ us) d l = same_if (b t.tok) (same_step fuel (f t.span) width room us (all_fall (f t.span)) (omega arith)) (same_step fuel q r room (t ∷ us) d l)
  same_step fuel (when opens b f q) r zero (t ∷ us) d l = same_if (b t.tok) refl (same_step fuel q r zero (t ∷ us) d l)
  same_step fuel (when opens b f q) r (suc room) (t ∷ us) d l = same_if (b t.tok) (same_step fuel (f t.span) width room us (all_fall (f t.span)) (omega arith)) (same_step fuel q r (suc room) (t ∷ us) d l)
  same_step fuel (named o c find f q) r room [] d l = same_step fuel q r room [] d l
  same_step fuel (named keeps c find f q) r room (t ∷ us) d l = same_on (find t.tok) _ _ (same_step fuel q r room (t ∷ us) d l) (λ a. same_step fuel (f a t.span) width room us (all_fall (f a t.span)) (omega arith))
  same_step fuel (named opens c find f q) r zero (t ∷ us) d l = same_on (find t.tok) _ _ (same_step fuel q r zero (t ∷ us) d l) (λ a. refl)
  same_step fuel (named opens c find f q) r (suc room) (t ∷ us) d l = same_on (find t.tok) _ _ (same_step fuel q r (suc room) (t ∷ us) d l) (λ a. same_step fuel (f a t.span) width room us (all_fall (f a t.span)) (omega arith))
  same_step fuel (ahead b p q) r room us d l = same_if (b (tok_at us)) (same_step fuel p r room us d.0 l) (same_step fuel q r room us d.1 l)
  same_step fuel (leave p) r q us d l = same_step fuel p r (suc q) us d l
  same_step fuel (part m f) r q us d l =
      same_behind fuel q f us _ (sound fuel m q us (omega (arith, d.0))) (λ x vs le. same_step fuel (f x) r q vs (d.1 x) (omega arith))
      ∙ ap (λ o. o >>= λ x. step reads (f x.0) q x.1) (fueled fuel m q us (omega (arith, d.0)))

  -- a part is read by its rule, and the parts in it are read alike
  pub by_rule : (n : Part) (room : ℕ) (ts : List Token) → reads n room ts ≡ step reads (rule n) room ts
  unfolding read_by
  by_rule n room ts = same_step (weight width ts + rank n) (rule n) (rank n) room ts (falls n) (omega arith)

  -- what the grammar says of what is read
  pub read_sound : (n : Part) (room : ℕ) (ts : List Token) → Outcome n room (rule n) ts (reads n room ts)
  read_sound n room ts = sound (suc (weight width ts + rank n)) n room ts (omega arith)

  pub read_reaches : (n : Part) (q room : ℕ) (us rest : List Token) (x : Value n) → Runs rule n q (rule n) us x (tok_at rest) → Reaches room q x rest (reads n room (us ++ rest))
  unfolding read_by
  read_reaches n q room us rest x h = reaches h (weight width (us ++ rest) + rank n) (rank n) room rest refl (falls n) (omega arith)

  pub read_refuses : (n : Part) (room : ℕ) (us rest : List Token) (why : Reason) → Refuses rule n room (rule n) us why (tok_at rest) → reads n room (us ++ rest) ≡ stuck why rest
  unfolding read_by
  read_refuses n room us rest why h = refuses h (weight width (us ++ rest) + rank n) (rank n) rest refl (falls n) (omega arith)

  value_or : {A : Type 0} → A → Read A → A
  value_or d (Ok x) = x.0
  value_or d (Err e) = d

  -- a list of tokens has at most one reading
  pub one_value : (n : Part) (a b : ℕ) (us rest : List Token) (x y : Value n) → Runs rule n a (rule n) us x (tok_at rest) → Runs rule n b (rule n) us y (tok_at rest) → x ≡ y
  unfolding value_or
  one_value n a b us rest x y h g = go (read_reaches n a (a + b) us rest x h) (read_reaches n b (a + b) us rest y g)
    where
      go : Reaches (a + b) a x rest (reads n (a + b) (us ++ rest)) → Reaches (a + b) b y rest (reads n (a + b) (us ++ rest)) → x ≡ y
      go (reached p) (reached q) = ap (value_or x) (sym p ∙ q)
      go (too_much r p l) q = absurd (omega arith)
      go p (too_much r q l) = absurd (omega arith)
