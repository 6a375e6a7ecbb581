-- The rules of data files take all that the EBNF derives, where no token follows that would go on.
use Rattle.std.proofs.Common.{◌≡◌, ℕ, List, suc, [], ◌∷◌, ◌++◌, length, refl, sym, ap, ◌∙◌, subst, append-nil, append_assoc, true, false, Bool, Option, inl, inr, ◌⊎◌}
use Rattle.std.specs.Prelude.{Ok, Some, None}
use Rattle.mz_base.specs.declared.fault.Span.{Span}
use Rattle.mz_lexer.specs.declared.token.Token.{Token}
use Rattle.mz_lexer.specs.declared.token.Tok.{Tok}
use Rattle.mz_lexer.specs.declared.token.Tok.TheVariants.{Sym, Ident}
use Rattle.mz_lexer.specs.declared.token.Symbol.{Symbol}
use Rattle.mz_lexer.specs.declared.token.Symbol.TheVariants.{SLParen, SRParen, SLBrack, SRBrack, SLBrace, SRBrace, SLRows, SRRows, SBar, SComma, SSemi, SDots, SAbsent}
use Rattle.mz_tree.specs.Tree.{Name}
use Rattle.mz_tree.specs.Data as pure
use Rattle.mz_tree.specs.Data.{Given, is_name}
use Rattle.mz_grammar.specs.Tokens.{tok_at, place}
use Rattle.mz_grammar.specs.Look.{is_sym, symbol_number}
use Rattle.mz_grammar.specs.Rules.{Reason, syntax, left_out, too_deep}
use Rattle.mz_grammar.specs.RulesReading.{Reader, step}
use Rattle.mz_grammar.specs.RulesPromise.{IsWithin, IsFault, FailsAt}
use Rattle.mz_grammar.proofs.Laws
use Rattle.mz_grammar.specs.Tests.{ident_of, ends_row}
use Rattle.mz_grammar.specs.Data.{Dimensions, dimensions_of, Place, rule, rank, width, reads, file, item, datum, named, sized, index_sets, plains, rows, row, plain, range, set, bounds, ones, one}
use Rattle.mz_grammar.proofs.DataFacts.{low, falls}
use Rattle.mz_grammar_ebnf.specs.Next.{Next, begins}
use Rattle.mz_grammar_ebnf.specs.DataSyntax as ebnf
use Rattle.mz_grammar_ebnf.specs.DataSyntax.{Phrase, Meaning, Derives, DerivesFile, list, optional}

by_rule : (n : Place) (room : ℕ) (ts : List Token) → reads n room ts ≡ step reads (rule n) room ts
unfolding reads
by_rule n room ts = Laws.by_rule rule rank width low falls n room ts

-- no token that goes on a value
abbrev EndsValue : Option Tok → Type 0
EndsValue o = (is_sym SDots o ≡ false) × (is_sym SLParen o ≡ false)

-- no token that closes a list, or that opens an array or a table
abbrev Inner : Option Tok → Type 0
Inner o = (is_sym SLBrack o ≡ false) × (is_sym SLRows o ≡ false) × (is_sym SRBrace o ≡ false) × (is_sym SRBrack o ≡ false) × (is_sym SRRows o ≡ false) × (ends_row o ≡ false)

abbrev Single : Option Tok → Type 0
Single o = (is_sym SLBrace o ≡ false) × (is_sym SAbsent o ≡ false) × Inner o

one_begins : {k : ℕ} {ts us : List Token} {x : pure.Value} → Derives k ebnf.one ts x us → Single (tok_at ts)
unfolding symbol_number
one_begins (ebnf.a_true (begins e)) = subst (λ t. Single (Some t)) (sym e) (refl, refl, (refl, refl, refl, refl, refl, refl))
one_begins (ebnf.a_false (begins e)) = subst (λ t. Single (Some t)) (sym e) (refl, refl, (refl, refl, refl, refl, refl, refl))
one_begins (ebnf.a_number z (begins e)) = subst (λ t. Single (Some t)) (sym e) (refl, refl, (refl, refl, refl, refl, refl, refl))
one_begins (ebnf.a_negative n (begins e) c) = subst (λ t. Single (Some t)) (sym e) (refl, refl, (refl, refl, refl, refl, refl, refl))
one_begins (ebnf.a_name n (begins e)) = subst (λ t. Single (Some t)) (sym e) (refl, refl, (refl, refl, refl, refl, refl, refl))

set_begins : {k : ℕ} {ts us : List Token} {x : pure.Value} → Derives k ebnf.set ts x us → Inner (tok_at ts)
unfolding symbol_number
set_begins (ebnf.braces (begins e) h c) = subst (λ t. Inner (Some t)) (sym e) (refl, refl, refl, refl, refl, refl)
set_begins (ebnf.range h c g) = (one_begins h).2
set_begins (ebnf.set_name n (begins e)) = subst (λ t. Inner (Some t)) (sym e) (refl, refl, refl, refl, refl, refl)

plain_begins : {k : ℕ} {ts us : List Token} {x : pure.Value} → Derives k ebnf.plain ts x us → Inner (tok_at ts)
unfolding symbol_number
plain_begins (ebnf.by_one h) = (one_begins h).2
plain_begins (ebnf.by_set h) = set_begins h
plain_begins (ebnf.absent (begins e)) = subst (λ t. Inner (Some t)) (sym e) (refl, refl, refl, refl, refl, refl)

-- An identifier, or none
one_kind : {k : ℕ} {ts us : List Token} {x : pure.Value} → Derives k ebnf.one ts x us → ((n : Name) × Next (Ident n) ts us × (x ≡ pure.ident n)) ⊎ (ident_of (tok_at ts) ≡ None)
unfolding symbol_number
one_kind (ebnf.a_true (begins e)) = inr (rw (e) refl)
one_kind (ebnf.a_false (begins e)) = inr (rw (e) refl)
one_kind (ebnf.a_number z (begins e)) = inr (rw (e) refl)
one_kind (ebnf.a_negative n (begins e) c) = inr (rw (e) refl)
one_kind (ebnf.a_name n c) = inl (n, c, refl)

-- a symbol isn't another
not_open : {s : Symbol} {ts us : List Token} → is_sym SLParen (Some (Sym s)) ≡ false → Next (Sym s) ts us → is_sym SLParen (tok_at ts) ≡ false
unfolding symbol_number
not_open h (begins e) = rw (e) h

-- Lists: by what is read at an element with more after it, at the last, at the last with a separator after it, and at the end
abbrev AtMore : (s : Symbol) (p : Phrase) (k : ℕ) → Reader (List (Meaning p)) → (List Token → List Token → Type 0) → Type 0
AtMore s p k all End = (ts us vs ws : List Token) (x : Meaning p) (xs : List (Meaning p)) → Derives k p ts x us → Next (Sym s) us vs → Derives k (list s p) vs xs ws → (rest : List Token) → End ws rest → all vs ≡ Ok (xs, rest) → all ts ≡ Ok (x ∷ xs, rest)

abbrev AtLast : (s : Symbol) (p : Phrase) (k : ℕ) → Reader (List (Meaning p)) → (List Token → List Token → Type 0) → Type 0
AtLast s p k all End = (ts us rest : List Token) (x : Meaning p) → Derives k p ts x us → End us rest → all ts ≡ Ok (x ∷ [], rest)

abbrev AtTrailing : (s : Symbol) (p : Phrase) (k : ℕ) → Reader (List (Meaning p)) → (List Token → List Token → Type 0) → Type 0
AtTrailing s p k all End = (ts us vs rest : List Token) (x : Meaning p) → Derives k p ts x us → Next (Sym s) us vs → End vs rest → all ts ≡ Ok (x ∷ [], rest)

list_taken : {s : Symbol} {p : Phrase} {k : ℕ} (all : Reader (List (Meaning p))) (End : List Token → List Token → Type 0) → AtMore s p k all End → AtLast s p k all End → AtTrailing s p k all End
    → {ts us : List Token} {xs : List (Meaning p)} → Derives k (list s p) ts xs us → (rest : List Token) → End us rest → all ts ≡ Ok (xs, rest)
list_taken all End m l t (ebnf.last h) rest c = l _ _ rest _ h c
list_taken all End m l t (ebnf.trailing h d) rest c = t _ _ _ rest _ h d c
list_taken all End m l t (ebnf.more h d g) rest c = m _ _ _ _ _ _ h d g rest c (list_taken all End m l t g rest c)

optional_taken : {s : Symbol} {p : Phrase} {k : ℕ} (all : Reader (List (Meaning p))) (End : List Token → List Token → Type 0) → AtMore s p k all End → AtLast s p k all End → AtTrailing s p k all End
    → ((ts rest : List Token) → End ts rest → all ts ≡ Ok ([], rest)) → {ts us : List Token} {xs : List (Meaning p)} → Derives k (optional s p) ts xs us → (rest : List Token) → End us rest → all ts ≡ Ok (xs, rest)
optional_taken all End m l t e ebnf.none rest c = e _ rest c
optional_taken all End m l t e (ebnf.some h) rest c = list_taken all End m l t h rest c

-- Values

taken_one : {k : ℕ} {ts us : List Token} {x : pure.Value} → Derives k ebnf.one ts x us → reads one k ts ≡ Ok ((place ts, x), us)
unfolding step rule symbol_number
taken_one (ebnf.a_true (begins e)) = by_rule one _ _ ∙ rw (step, e) refl
taken_one (ebnf.a_false (begins e)) = by_rule one _ _ ∙ rw (step, e) refl
taken_one (ebnf.a_number z (begins e)) = by_rule one _ _ ∙ rw (step, e) refl
taken_one (ebnf.a_negative n (begins e) (begins f)) = by_rule one _ _ ∙ rw (step, e, f) refl
taken_one (ebnf.a_name n (begins e)) = by_rule one _ _ ∙ rw (step, e) refl

ones_end : (k : ℕ) (ts rest : List Token) → Next (Sym SRBrace) ts rest → reads ones k ts ≡ Ok ([], rest)
unfolding step rule symbol_number
ones_end k ts rest (begins e) = by_rule ones k _ ∙ rw (step, e) refl

ones_last : (k : ℕ) (ts us rest : List Token) (x : pure.Value) → Derives k ebnf.one ts x us → Next (Sym SRBrace) us rest → reads ones k ts ≡ Ok (x ∷ [], rest)
unfolding step rule symbol_number
ones_last k ts us rest x h (begins e) = by_rule ones k _ ∙ rw (step, (one_begins h).2.2, taken_one h, e) refl

ones_more : (k : ℕ) (ts us vs ws : List Token) (x : pure.Value) (xs : List (pure.Value)) → Derives k ebnf.one ts x us → Next (Sym SComma) us vs → Derives k (list SComma ebnf.one) vs xs ws → (rest : List Token) → Next (Sym SRBrace) ws rest → reads ones k vs ≡ Ok (xs, rest) → reads ones k ts ≡ Ok (x ∷ xs, rest)
unfolding step rule symbol_number
ones_more k ts us vs ws x xs h (begins e) g rest c again = by_rule ones k _ ∙ rw (step, (one_begins h).2.2, taken_one h, e, again) refl

ones_trailing : (k : ℕ) (ts us vs rest : List Token) (x : pure.Value) → Derives k ebnf.one ts x us → Next (Sym SComma) us vs → Next (Sym SRBrace) vs rest → reads ones k ts ≡ Ok (x ∷ [], rest)
unfolding step rule symbol_number
ones_trailing k ts us vs rest x h (begins e) c = by_rule ones k _ ∙ rw (step, (one_begins h).2.2, taken_one h, e, ones_end k _ _ c) refl

taken_ones : {k : ℕ} {ts us rest : List Token} {xs : List (pure.Value)} → Derives k (optional SComma ebnf.one) ts xs us → Next (Sym SRBrace) us rest → reads ones k ts ≡ Ok (xs, rest)
taken_ones {k = k} h c = optional_taken {s = SComma} {p = ebnf.one} {k = k} (reads ones k) (Next (Sym SRBrace)) (ones_more k) (ones_last k) (ones_trailing k) (ones_end k) h _ c

-- after the first value of a range, and where no range is
range_goes : {k : ℕ} {us vs ws : List Token} {x y : pure.Value} → Next (Sym SDots) us vs → Derives k ebnf.one vs y ws → reads (range x) k us ≡ Ok (pure.range x y, ws)
unfolding step rule symbol_number
range_goes (begins e) g = by_rule (range _) _ _ ∙ rw (step, e, taken_one g) refl

range_stops : (k : ℕ) (x : pure.Value) (us : List Token) → is_sym SDots (tok_at us) ≡ false → reads (range x) k us ≡ Ok (x, us)
unfolding step rule symbol_number
range_stops k x us q = by_rule (range _) _ _ ∙ rw (step, q) refl

bounds_go : (free : Bool) {k : ℕ} {us vs ws : List Token} {x y : pure.Value} → Next (Sym SDots) us vs → Derives k ebnf.one vs y ws → reads (bounds free x) k us ≡ Ok (pure.range x y, ws)
unfolding step rule symbol_number
bounds_go true (begins e) g = by_rule (bounds true _) _ _ ∙ rw (step, e, taken_one g) refl
bounds_go false (begins e) g = by_rule (bounds false _) _ _ ∙ rw (step, e, taken_one g) refl

bounds_stop : (k : ℕ) (v : pure.Value) (us : List Token) → is_sym SDots (tok_at us) ≡ false → reads (bounds true v) k us ≡ Ok (v, us)
unfolding step rule
bounds_stop k v us q = by_rule (bounds true v) k us ∙ rw (step, q) refl

taken_set : {k : ℕ} {ts us : List Token} {x : pure.Value} → Derives k ebnf.set ts x us → is_sym SDots (tok_at us) ≡ false → reads set k ts ≡ Ok (x, us)
unfolding step rule symbol_number
taken_set (ebnf.braces (begins e) h c) q = by_rule set _ _ ∙ rw (step, e, taken_ones h c) refl
taken_set (ebnf.range {x = x} h c g) q = by_rule set _ _ ∙ rw (step, (one_begins h).0, taken_one h, bounds_go (is_name x) {x = x} c g) refl
taken_set {us = us} (ebnf.set_name {k = k} n c) q = by_rule set k _ ∙ rw (step, (one_begins (ebnf.a_name {k = k} n c)).0, taken_one (ebnf.a_name {k = k} n c), bounds_stop k (pure.ident n) us q) refl

single_plain : {k : ℕ} {ts us : List Token} {x : pure.Value} → Derives k ebnf.one ts x us → is_sym SDots (tok_at us) ≡ false → reads plain k ts ≡ Ok ((place ts, x), us)
unfolding step rule symbol_number
single_plain {us = us} {x = x} h q = by_rule plain _ _ ∙ rw (step, (one_begins h).0, (one_begins h).1, taken_one h, range_stops _ x us q) refl

taken_plain : {k : ℕ} {ts us : List Token} {x : pure.Value} → Derives k ebnf.plain ts x us → is_sym SDots (tok_at us) ≡ false → reads plain k ts ≡ Ok ((place ts, x), us)
unfolding step rule symbol_number
taken_plain (ebnf.by_one h) q = single_plain h q
taken_plain (ebnf.by_set (ebnf.braces (begins e) h c)) q = by_rule plain _ _ ∙ rw (step, e, taken_ones h c) refl
taken_plain (ebnf.by_set (ebnf.range {x = x} h c g)) q = by_rule plain _ _ ∙ rw (step, (one_begins h).0, (one_begins h).1, taken_one h, range_goes {x = x} c g) refl
taken_plain (ebnf.by_set (ebnf.set_name n c)) q = single_plain (ebnf.a_name n c) q
taken_plain (ebnf.absent (begins e)) q = by_rule plain _ _ ∙ rw (step, e) refl

-- Lists of plain values, and rows

plain_before : {s : Symbol} {k : ℕ} {ts : List Token} {t : Token} {us : List Token} {x : pure.Value} → is_sym SDots (Some (Sym s)) ≡ false → t.tok ≡ Sym s → Derives k ebnf.plain ts x (t ∷ us) → reads plain k ts ≡ Ok ((place ts, x), t ∷ us)
unfolding symbol_number
plain_before d e h = taken_plain h (rw (e) d)

plains_end : (k : ℕ) (ts rest : List Token) → Next (Sym SRBrack) ts rest → reads plains k ts ≡ Ok ([], rest)
unfolding step rule symbol_number
plains_end k ts rest (begins e) = by_rule plains k _ ∙ rw (step, e) refl

plains_last : (k : ℕ) (ts us rest : List Token) (x : pure.Value) → Derives k ebnf.plain ts x us → Next (Sym SRBrack) us rest → reads plains k ts ≡ Ok (x ∷ [], rest)
unfolding step rule symbol_number
plains_last k ts us rest x h (begins e) = by_rule plains k _ ∙ rw (step, (plain_begins h).3, plain_before refl e h, e) refl

plains_more : (k : ℕ) (ts us vs ws : List Token) (x : pure.Value) (xs : List (pure.Value)) → Derives k ebnf.plain ts x us → Next (Sym SComma) us vs → Derives k (list SComma ebnf.plain) vs xs ws → (rest : List Token) → Next (Sym SRBrack) ws rest → reads plains k vs ≡ Ok (xs, rest) → reads plains k ts ≡ Ok (x ∷ xs, rest)
unfolding step rule symbol_number
plains_more k ts us vs ws x xs h (begins e) g rest c again = by_rule plains k _ ∙ rw (step, (plain_begins h).3, plain_before refl e h, e, again) refl

plains_trailing : (k : ℕ) (ts us vs rest : List Token) (x : pure.Value) → Derives k ebnf.plain ts x us → Next (Sym SComma) us vs → Next (Sym SRBrack) vs rest → reads plains k ts ≡ Ok (x ∷ [], rest)
unfolding step rule symbol_number
plains_trailing k ts us vs rest x h (begins e) c = by_rule plains k _ ∙ rw (step, (plain_begins h).3, plain_before refl e h, e, plains_end k _ _ c) refl

taken_plains : {k : ℕ} {ts us rest : List Token} {xs : List (pure.Value)} → Derives k (optional SComma ebnf.plain) ts xs us → Next (Sym SRBrack) us rest → reads plains k ts ≡ Ok (xs, rest)
taken_plains {k = k} h c = optional_taken {s = SComma} {p = ebnf.plain} {k = k} (reads plains k) (Next (Sym SRBrack)) (plains_more k) (plains_last k) (plains_trailing k) (plains_end k) h _ c

list_begins : {s : Symbol} {k : ℕ} {ts us : List Token} {xs : List pure.Value} → Derives k (list s ebnf.plain) ts xs us → Inner (tok_at ts)
list_begins (ebnf.last h) = plain_begins h
list_begins (ebnf.trailing h c) = plain_begins h
list_begins (ebnf.more h c g) = plain_begins h

-- what ends a row, and stays
abbrev RowEnd : List Token → List Token → Type 0
RowEnd us rest = (us ≡ rest) × (ends_row (tok_at us) ≡ true) × (is_sym SComma (tok_at us) ≡ false) × (is_sym SDots (tok_at us) ≡ false)

row_last : (k : ℕ) (ts us rest : List Token) (x : pure.Value) → Derives k ebnf.plain ts x us → RowEnd us rest → reads row k ts ≡ Ok (x ∷ [], rest)
unfolding step rule symbol_number
row_last k ts us rest x h c = by_rule row k ts ∙ rw (step, taken_plain h c.3, c.2) (ap (λ us. Ok (x ∷ [], us)) c.0)

row_more : (k : ℕ) (ts us vs ws : List Token) (x : pure.Value) (xs : List pure.Value) → Derives k ebnf.plain ts x us → Next (Sym SComma) us vs → Derives k (list SComma ebnf.plain) vs xs ws → (rest : List Token) → RowEnd ws rest → reads row k vs ≡ Ok (xs, rest) → reads row k ts ≡ Ok (x ∷ xs, rest)
unfolding step rule symbol_number
row_more k ts us vs ws x xs h (begins e) g rest c again = by_rule row k ts ∙ rw (step, plain_before refl e h, e, (list_begins g).5, again) refl

row_trailing : (k : ℕ) (ts us vs rest : List Token) (x : pure.Value) → Derives k ebnf.plain ts x us → Next (Sym SComma) us vs → RowEnd vs rest → reads row k ts ≡ Ok (x ∷ [], rest)
unfolding step rule symbol_number
row_trailing k ts us vs rest x h (begins e) c = by_rule row k ts ∙ rw (step, plain_before refl e h, e, c.1) (ap (λ us. Ok (x ∷ [], us)) c.0)

taken_row : {k : ℕ} {ts us : List Token} {xs : List pure.Value} → Derives k (list SComma ebnf.plain) ts xs us → RowEnd us us → reads row k ts ≡ Ok (xs, us)
taken_row {k = k} {us = us} h c = list_taken {s = SComma} {p = ebnf.plain} {k = k} (reads row k) RowEnd (row_more k) (row_last k) (row_trailing k) h us c

row_before : {s : Symbol} {k : ℕ} {ts : List Token} {t : Token} {us : List Token} {xs : List pure.Value} → ends_row (Some (Sym s)) ≡ true → is_sym SComma (Some (Sym s)) ≡ false → is_sym SDots (Some (Sym s)) ≡ false → t.tok ≡ Sym s → Derives k (list SComma ebnf.plain) ts xs (t ∷ us) → reads row k ts ≡ Ok (xs, t ∷ us)
unfolding symbol_number
row_before a b d e h = taken_row h (refl, rw (e) a, rw (e) b, rw (e) d)

rows_end : (k : ℕ) (ts rest : List Token) → Next (Sym SRRows) ts rest → reads rows k ts ≡ Ok ([], rest)
unfolding step rule symbol_number
rows_end k ts rest (begins e) = by_rule rows k _ ∙ rw (step, e) refl

rows_last : (k : ℕ) (ts us rest : List Token) (x : List pure.Value) → Derives k (list SComma ebnf.plain) ts x us → Next (Sym SRRows) us rest → reads rows k ts ≡ Ok (x ∷ [], rest)
unfolding step rule symbol_number
rows_last k ts us rest x h (begins e) = by_rule rows k _ ∙ rw (step, (list_begins h).4, row_before refl refl refl e h, e) refl

rows_more : (k : ℕ) (ts us vs ws : List Token) (x : List pure.Value) (xs : List (List pure.Value)) → Derives k (list SComma ebnf.plain) ts x us → Next (Sym SBar) us vs → Derives k (list SBar (list SComma ebnf.plain)) vs xs ws → (rest : List Token) → Next (Sym SRRows) ws rest → reads rows k vs ≡ Ok (xs, rest) → reads rows k ts ≡ Ok (x ∷ xs, rest)
unfolding step rule symbol_number
rows_more k ts us vs ws x xs h (begins e) g rest c again = by_rule rows k _ ∙ rw (step, (list_begins h).4, row_before refl refl refl e h, e, again) refl

rows_trailing : (k : ℕ) (ts us vs rest : List Token) (x : List pure.Value) → Derives k (list SComma ebnf.plain) ts x us → Next (Sym SBar) us vs → Next (Sym SRRows) vs rest → reads rows k ts ≡ Ok (x ∷ [], rest)
unfolding step rule symbol_number
rows_trailing k ts us vs rest x h (begins e) c = by_rule rows k _ ∙ rw (step, (list_begins h).4, row_before refl refl refl e h, e, rows_end k _ _ c) refl

taken_rows : {k : ℕ} {ts us rest : List Token} {xs : List (List pure.Value)} → Derives k (optional SBar (list SComma ebnf.plain)) ts xs us → Next (Sym SRRows) us rest → reads rows k ts ≡ Ok (xs, rest)
taken_rows {k = k} h c = optional_taken {s = SBar} {p = (list SComma ebnf.plain)} {k = k} (reads rows k) (Next (Sym SRRows)) (rows_more k) (rows_last k) (rows_trailing k) (rows_end k) h _ c

-- Index sets

set_before : {k : ℕ} {ts : List Token} {t : Token} {us : List Token} {x : pure.Value} → t.tok ≡ Sym SComma → Derives k ebnf.set ts x (t ∷ us) → reads set k ts ≡ Ok (x, t ∷ us)
unfolding symbol_number
set_before e h = taken_set h (rw (e) refl)

sets_end : (k : ℕ) (ts : List Token) → is_sym SComma (tok_at ts) ≡ false → reads (index_sets 0) k ts ≡ Ok ([], ts)
unfolding step rule
sets_end k ts q = by_rule (index_sets 0) k ts ∙ rw (step, q) refl

sets_comma : (k : ℕ) {ts us : List Token} → Next (Sym SComma) ts us → reads (index_sets 0) k ts ≡ Ok ([], us)
unfolding step rule symbol_number
sets_comma k (begins e) = by_rule (index_sets 0) k _ ∙ rw (step, e) refl

taken_sets : {k : ℕ} {ts us vs : List Token} {xs : List pure.Value} → Derives k (list SComma ebnf.set) ts xs us → Next (Sym SComma) us vs → is_sym SComma (tok_at vs) ≡ false → reads (index_sets (length xs)) k ts ≡ Ok (xs, vs)
unfolding step rule symbol_number
taken_sets (ebnf.last h) (begins e) q = by_rule (index_sets 1) _ _ ∙ rw (step, set_before e h, e, sets_end _ _ q) refl
taken_sets (ebnf.trailing h (begins e)) c q = by_rule (index_sets 1) _ _ ∙ rw (step, set_before e h, e, sets_comma _ c) refl
taken_sets (ebnf.more {xs = xs} h (begins e) g) c q = by_rule (index_sets (suc (length xs))) _ _ ∙ rw (step, set_before e h, e, taken_sets g c q) refl

-- Data

named_goes : (o : Option ℕ) (k : ℕ) (n : Name) (us : List Token) {ws : List Token} {x : pure.Value} → is_sym SLParen (tok_at us) ≡ false → reads (range (pure.ident n)) k us ≡ Ok (x, ws) → reads (named o n) k us ≡ Ok (x, ws)
unfolding step rule
named_goes None k n us q h = by_rule (named None n) k us ∙ rw (step, q, h) refl
named_goes (Some m) k n us q h = by_rule (named (Some m) n) k us ∙ rw (step, q, h) refl

by_name : (d : Dimensions) (k : ℕ) (n : Name) {ts us ws : List Token} {x : pure.Value} → Next (Ident n) ts us → reads (named (d n) n) k us ≡ Ok (x, ws) → reads (datum d) k ts ≡ Ok ((place ts, x), ws)
unfolding step rule symbol_number
by_name d k n (begins e) h = by_rule (datum d) _ _ ∙ rw (step, e, h) refl

by_plain : (d : Dimensions) (k : ℕ) (ts : List Token) {us : List Token} {x : pure.Value} → Inner (tok_at ts) → ident_of (tok_at ts) ≡ None → reads plain k ts ≡ Ok ((place ts, x), us) → reads (datum d) k ts ≡ Ok ((place ts, x), us)
unfolding step rule symbol_number
by_plain d k ts i e h = by_rule (datum d) _ _ ∙ rw (step, i.0, i.1, e, h) refl

single_datum : (d : Dimensions) {k : ℕ} {ts us : List Token} {x : pure.Value} → Derives k ebnf.one ts x us → EndsValue (tok_at us) → reads (datum d) k ts ≡ Ok ((place ts, x), us)
single_datum d {k = k} {ts = ts} {us = us} {x = x} h q = elim (one_kind h) [
  | inl c ↦ subst (λ x. reads (datum d) k ts ≡ Ok ((place ts, x), us)) (sym c.2) (by_name d k c.0 c.1 (named_goes (d c.0) k c.0 us q.1 (range_stops k (pure.ident c.0) us q.0)))
  | inr e ↦ by_plain d k ts (one_begins h).2 e (single_plain h q.0)
]

range_datum : (d : Dimensions) {k : ℕ} {ts us vs ws : List Token} {x y : pure.Value} → Derives k ebnf.one ts x us → Next (Sym SDots) us vs → Derives k ebnf.one vs y ws → is_sym SDots (tok_at ws) ≡ false → reads (datum d) k ts ≡ Ok ((place ts, pure.range x y), ws)
unfolding step rule symbol_number
range_datum d {k = k} {ts = ts} {us = us} {ws = ws} {x = x} {y = y} h c g q = elim (one_kind h) [
  | inl e ↦ subst (λ x. reads (datum d) k ts ≡ Ok ((place ts, pure.range x y), ws)) (sym e.2) (by_name d k e.0 e.1 (named_goes (d e.0) k e.0 us (not_open refl c) (range_goes {x = pure.ident e.0} c g)))
  | inr e ↦ by_plain d k ts (one_begins h).2 e (taken_plain (ebnf.by_set (ebnf.range h c g)) q)
]

other_datum : (d : Dimensions) {k : ℕ} {ts us : List Token} {x : pure.Value} → Derives k ebnf.plain ts x us → ident_of (tok_at ts) ≡ None → EndsValue (tok_at us) → reads (datum d) k ts ≡ Ok ((place ts, x), us)
other_datum d {k = k} {ts = ts} h e q = by_plain d k ts (plain_begins h) e (taken_plain h q.0)

taken_sized : {k : ℕ} {ts us vs ws xs ys zs : List Token} {ss es : List pure.Value} → Derives (suc k) (list SComma ebnf.set) ts ss us → Next (Sym SComma) us vs → Next (Sym SLBrack) vs ws → Derives k (optional SComma ebnf.plain) ws es xs → Next (Sym SRBrack) xs ys → Next (Sym SRParen) ys zs
    → reads (sized (length ss)) (suc k) ts ≡ Ok (pure.array_nd (pure.values ss) (pure.values es), zs)
unfolding step rule symbol_number
taken_sized l c (begins b) h f (begins r) = by_rule (sized _) _ _ ∙ rw (step, taken_sets l c (rw (b) refl), b, taken_plains h f, r) refl

taken_datum : (d : Dimensions) {k : ℕ} {ts us : List Token} {x : pure.Value} → Derives k (ebnf.datum d) ts x us → EndsValue (tok_at us) → reads (datum d) k ts ≡ Ok ((place ts, x), us)
unfolding step rule symbol_number
taken_datum d (ebnf.by_plain (ebnf.by_one h)) q = single_datum d h q
taken_datum d (ebnf.by_plain (ebnf.by_set (ebnf.braces (begins {t = t} e) h c))) q = other_datum d (ebnf.by_set (ebnf.braces (begins {t = t} e) h c)) (rw (e) refl) q
taken_datum d (ebnf.by_plain (ebnf.by_set (ebnf.range h c g))) q = range_datum d h c g q.0
taken_datum d (ebnf.by_plain (ebnf.by_set (ebnf.set_name n c))) q = single_datum d (ebnf.a_name n c) q
taken_datum d (ebnf.by_plain (ebnf.absent {k = k} (begins {t = t} e))) q = other_datum d (ebnf.absent {k = k} (begins {t = t} e)) (rw (e) refl) q
taken_datum d (ebnf.array (begins e) h c) q = by_rule (datum d) _ _ ∙ rw (step, e, taken_plains h c) refl
taken_datum d (ebnf.rows (begins e) h c) q = by_rule (datum d) _ _ ∙ rw (step, e, taken_rows h c) refl
taken_datum d (ebnf.array_nd n a m (begins p) l c b h f r) q = by_name d _ n a (rw (m) (by_rule (named (Some _) n) _ _ ∙ rw (step, p, taken_sized l c b h f r) refl))

-- Items, and files

taken_item : (d : Dimensions) {k : ℕ} {ts us : List Token} {i : Given} → Derives k (ebnf.item d) ts i us → EndsValue (tok_at us) → reads (item d) k ts ≡ Ok (i, us)
unfolding step rule symbol_number
taken_item d (ebnf.assigns n (begins e) (begins f) h) q = by_rule (item d) _ _ ∙ rw (step, e, f, taken_datum d h q) refl

item_before : (d : Dimensions) {k : ℕ} {ts : List Token} {t : Token} {us : List Token} {i : Given} → t.tok ≡ Sym SSemi → Derives k (ebnf.item d) ts i (t ∷ us) → reads (item d) k ts ≡ Ok (i, t ∷ us)
unfolding symbol_number
item_before d e h = taken_item d h (rw (e) refl, rw (e) refl)

item_goes : (d : Dimensions) {k : ℕ} {ts us : List Token} {i : Given} → Derives k (ebnf.item d) ts i us → (t : Tok) × (tok_at ts ≡ Some t)
unfolding symbol_number
item_goes d (ebnf.assigns n (begins {t = t} e) f h) = (t.tok, refl)

-- nothing is left
abbrev Ended : List Token → List Token → Type 0
Ended us rest = (us ≡ []) × (rest ≡ [])

file_end : (d : Dimensions) (k : ℕ) (ts rest : List Token) → Ended ts rest → reads (file d) k ts ≡ Ok ([], rest)
unfolding step rule symbol_number
file_end d k ts rest c = rw (c.0, c.1) (by_rule (file d) k [])

file_last : (d : Dimensions) (k : ℕ) (ts us rest : List Token) (i : Given) → Derives k (ebnf.item d) ts i us → Ended us rest → reads (file d) k ts ≡ Ok (i ∷ [], rest)
unfolding step rule symbol_number
file_last d k ts us rest i h c = by_rule (file d) k ts ∙ rw (step, (item_goes d h).1, taken_item d h (rw (c.0) (refl, refl)), c.0, c.1) refl

file_more : (d : Dimensions) (k : ℕ) (ts us vs ws : List Token) (i : Given) (more : List Given) → Derives k (ebnf.item d) ts i us → Next (Sym SSemi) us vs → Derives k (list SSemi (ebnf.item d)) vs more ws → (rest : List Token) → Ended ws rest → reads (file d) k vs ≡ Ok (more, rest) → reads (file d) k ts ≡ Ok (i ∷ more, rest)
unfolding step rule symbol_number
file_more d k ts us vs ws i more h (begins e) g rest c again = by_rule (file d) k ts ∙ rw (step, (item_goes d h).1, item_before d e h, e, again) refl

file_trailing : (d : Dimensions) (k : ℕ) (ts us vs rest : List Token) (i : Given) → Derives k (ebnf.item d) ts i us → Next (Sym SSemi) us vs → Ended vs rest → reads (file d) k ts ≡ Ok (i ∷ [], rest)
unfolding step rule symbol_number
file_trailing d k ts us vs rest i h (begins e) c = by_rule (file d) k ts ∙ rw (step, (item_goes d h).1, item_before d e h, e, file_end d k _ _ c) refl

taken_file : (d : Dimensions) {k : ℕ} {ts : List Token} {items : List Given} → DerivesFile d k ts items → reads (file d) k ts ≡ Ok (items, [])
unfolding symbol_number
taken_file d {k = k} h = optional_taken {s = SSemi} {p = ebnf.item d} {k = k} (reads (file d) k) Ended (file_more d k) (file_last d k) (file_trailing d k) (file_end d k) h [] (refl, refl)

-- so the rules take it
pub file_taken : (d : Dimensions) (room : ℕ) (tokens : List Token) (items : List Given) → DerivesFile d room tokens items → IsWithin rule (file d) room tokens items
unfolding reads
file_taken d room tokens items h =
    let o : Laws.Outcome rule rank width low falls (file d) room (rule (file d)) tokens (Ok (items, [])) = subst (λ o. Laws.Outcome rule rank width low falls (file d) room (rule (file d)) tokens o) (taken_file d h) (Laws.read_sound rule rank width low falls (file d) room tokens) in
    subst (λ ts. IsWithin rule (file d) room ts items) (sym (append-nil o.0) ∙ sym o.1) o.2

pub data_files_taken : (names : List (List ℕ)) (room : ℕ) (tokens : List Token) (items : List Given) → DerivesFile (dimensions_of names) room tokens items → IsWithin rule (file (dimensions_of names)) room tokens items
data_files_taken names room tokens items h = file_taken (dimensions_of names) room tokens items h

-- So it isn't refused

-- a file fails at none of its tokens
no_failing : {d : Dimensions} {room : ℕ} {items : List Given} (prefix rest tokens : List Token) → tokens ≡ prefix ++ rest → FailsAt rule (file d) prefix rest → IsWithin rule (file d) room tokens items → ⊥
no_failing {d = d} {room = room} {items = items} prefix [] tokens e fails h = fails items room (subst (λ ts. IsWithin rule (file d) room ts items) (e ∙ append-nil prefix) h)
no_failing {d = d} {room = room} {items = items} prefix (t ∷ rest) tokens e fails h = fails (rest, items, room, subst (λ ts. IsWithin rule (file d) room ts items) (e ∙ sym (append_assoc prefix (t ∷ []) rest)) h)

pub none_refused : (names : List (List ℕ)) (room : ℕ) (tokens : List Token) (items : List Given) (why : Reason) (end at : Span) → DerivesFile (dimensions_of names) room tokens items → IsFault rule (file (dimensions_of names)) room why end tokens at → ⊥
none_refused names room tokens items syntax end at h f = no_failing {d = dimensions_of names} {room = room} {items = items} f.prefix f.rest tokens f.split f.fails (data_files_taken names room tokens items h)
none_refused names room tokens items left_out end at h f = no_failing {d = dimensions_of names} {room = room} {items = items} f.prefix f.rest tokens f.split f.fails (data_files_taken names room tokens items h)
none_refused names room tokens items too_deep end at h f =
    f.fails (f.rest, items, subst (λ ts. IsWithin rule (file (dimensions_of names)) room ts items) (f.split ∙ sym (append_assoc f.prefix (f.token ∷ []) f.rest)) (data_files_taken names room tokens items h))

pub one_derived : (names : List (List ℕ)) (k m : ℕ) (tokens : List Token) (items others : List Given) → DerivesFile (dimensions_of names) k tokens items → DerivesFile (dimensions_of names) m tokens others → items ≡ others
one_derived names k m tokens items others h g = Laws.one_value rule rank width low falls (file (dimensions_of names)) k m tokens [] items others (data_files_taken names k tokens items h) (data_files_taken names m tokens others g)
