-- Where the rules refuse a form that is left out, such a form stands there, if each rule refuses it so.
use Rattle.std.proofs.Common.{◌≡◌, ℕ, suc, List, [], ◌∷◌, ◌++◌, refl, sym, ap, ◌∙◌, subst, append_assoc, true, Bool, Option}
use Rattle.mz_lexer.specs.declared.token.Token.{Token}
use Rattle.mz_grammar.specs.Tokens.{place, tok_at}
use Rattle.mz_grammar.specs.Rules.{Reason, syntax, left_out, too_deep, Rule, give, refuse, leave_out, when, named, ahead, leave, part, kept, opened, Refuses, unfit, unwanted, one_too_many, one_name_too_many, behind_over, behind_skip, behind_find, behind_lack, behind_sight, behind_miss, behind_leave, within, beyond}
use Rattle.mz_lexer.specs.declared.token.Tok.{Tok}
use Rattle.mz_grammar_ebnf.specs.LeftOut.{Within}
use Rattle.mz_grammar_ebnf.proofs.Means as meant
use Rattle.mz_grammar_ebnf.proofs.Means.{Passes, passing, Tells, telling, Leaving, met}

-- what follows stands in the whole too
within_rest : {whole : List Token} (us ts : List Token) → Within whole (us ++ ts) → Within whole ts
within_rest us ts w = (w.0 ++ us, w.1 ∙ sym (append_assoc w.0 us ts))

no_syntax : syntax ≡ left_out → ⊥
no_syntax e = absurd (cc)

no_depth : too_deep ≡ left_out → ⊥
no_depth e = absurd (cc)

-- Before n room whole ts says what stands before the part n, which begins at ts in whole; and Form whole ts, that a form
-- that is left out stands in whole, whose token is the first of ts.
module _ {Part Class : Type 0} {Value : Part → Type 0} {Told : Class → Type 0} (Claim : (n : Part) → ℕ → List Token → Value n → List Token → Type 0) (Before : (n : Part) → ℕ → List Token → List Token → Type 0) (Form : List Token → List Token → Type 0) where
  abbrev pub Blames : {n : Part} → List Token → ℕ → List Token → Rule Value Told n → Type 0
  Blames whole room ts (give x) = Unit {0}
  Blames whole room ts refuse = Unit {0}
  Blames whole room ts leave_out = Form whole ts
  Blames whole room ts (when o b f q) = Leaving o room (λ r. (us : List Token) → Passes b ts us → Blames whole r us (f (place ts))) × Blames whole room ts q
  Blames whole room ts (named o c find f q) = ((a : Told c) → Leaving o room (λ r. (us : List Token) → Tells find a ts us → Blames whole r us (f a (place ts)))) × Blames whole room ts q
  Blames whole room ts (ahead b p q) = (b (tok_at ts) ≡ true → Blames whole room ts p) × Blames whole room ts q
  Blames whole room ts (leave p) = Blames whole (suc room) ts p
  Blames whole room ts (part m f) = Before m room whole ts × ((x : Value m) (us : List Token) → Claim m room ts x us → Blames whole room us (f x))

  module _ (rule : (n : Part) → Rule Value Told n) (all_mean : (n : Part) (room : ℕ) (ts : List Token) → meant.Means Claim room ts room ts (rule n))
      (all_blame : (n : Part) (room : ℕ) (whole ts : List Token) → Within whole ts → Before n room whole ts → Blames whole room ts (rule n)) where
    pub blamed : {n : Part} {q : ℕ} {p : Rule Value Told n} {us : List Token} {why : Reason} {next : Option Tok} → Refuses rule n q p us why next → why ≡ left_out → (whole rest : List Token) → next ≡ tok_at rest → Within whole (us ++ rest) → Blames whole q (us ++ rest) p → Form whole rest
    blamed unfit e whole rest g w m = absurd (no_syntax e)
    blamed unwanted e whole rest g w m = m
    blamed (one_too_many k) e whole rest g w m = absurd (no_depth e)
    blamed (one_name_too_many k) e whole rest g w m = absurd (no_depth e)
    blamed (behind_over {t = t} {ts = ts} kept k h) e whole rest g w m = blamed h e whole rest g (within_rest (t ∷ []) (ts ++ rest) w) (m.0 (ts ++ rest) (passing k))
    blamed (behind_over {r = r} {t = t} {ts = ts} opened k h) e whole rest g w m = blamed h e whole rest g (within_rest (t ∷ []) (ts ++ rest) w) (m.0 r refl (ts ++ rest) (passing k))
    blamed (behind_skip k h) e whole rest g w m = blamed h e whole rest g w m.1
    blamed (behind_find {a = a} {t = t} {ts = ts} kept k h) e whole rest g w m = blamed h e whole rest g (within_rest (t ∷ []) (ts ++ rest) w) (m.0 a (ts ++ rest) (telling k))
    blamed (behind_find {r = r} {a = a} {t = t} {ts = ts} opened k h) e whole rest g w m = blamed h e whole rest g (within_rest (t ∷ []) (ts ++ rest) w) (m.0 a r refl (ts ++ rest) (telling k))
    blamed (behind_lack k h) e whole rest g w m = blamed h e whole rest g w m.1
    blamed (behind_sight {b = b} {ts = ts} k h) e whole rest g w m = blamed h e whole rest g w (m.0 (ap b (met ts rest g) ∙ k))
    blamed (behind_miss k h) e whole rest g w m = blamed h e whole rest g w m.1
    blamed (behind_leave h) e whole rest g w m = blamed h e whole rest g w m
    blamed {q = q} (within {m = k} {ts = ts} h) e whole rest g w m = blamed h e whole rest g w (all_blame k q whole (ts ++ rest) w m.0)
    blamed {q = q} (beyond {m = k} {f = f} us vs {x = x} h r) e whole rest g w m =
        let v = within_rest us (vs ++ rest) (subst (λ ts. Within whole ts) (append_assoc us vs rest) w) in
        let n : Blames whole q (us ++ (vs ++ rest)) (part k f) = subst (λ ts. Blames whole q ts (part k f)) (append_assoc us vs rest) m in
        blamed r e whole rest g v (n.1 x (vs ++ rest) (meant.means Claim rule all_mean h q (us ++ (vs ++ rest)) (vs ++ rest) (sym (met vs rest g)) (all_mean k q (us ++ (vs ++ rest)))))

-- after a token
pub within_next : {b : Tok → Bool} {whole ts us : List Token} → Within whole ts → Passes b ts us → Within whole us
within_next w (passing {t = t} {us = us} e) = within_rest (t ∷ []) us w
