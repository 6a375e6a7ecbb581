-- What the rules of data files take is what the EBNF derives.
use Rattle.std.proofs.Common.{◌≡◌, ◌<◌, ℕ, zero, suc, List, [], ◌∷◌, length, refl, sym, ap, ◌∙◌, subst, true, false, Bool, inl, inr, ◌⊎◌, append-nil, arith}
use Rattle.std.specs.Prelude.{Some, None, pos, ℤ, if◌then◌else◌, codes}
use Rattle.std.specs.Str.{bytes_eq}
use Rattle.mz_base.specs.Names.{text_of}
use Rattle.mz_lexer.specs.declared.token.Token.{Token}
use Rattle.mz_lexer.specs.declared.token.Tok.{Tok}
use Rattle.mz_lexer.specs.declared.token.Tok.TheVariants.{Word, Sym, Ident, Int}
use Rattle.mz_base.specs.declared.keyword.Keyword.TheVariants.{KTrue, KFalse}
use Rattle.mz_lexer.specs.declared.token.Symbol.{Symbol}
use Rattle.mz_lexer.specs.declared.token.Symbol.TheVariants.{SLParen, SRParen, SLBrack, SRBrack, SRBrace, SRRows, SBar, SComma, SSemi, SEq, SMinus}
use Rattle.mz_tree.specs.Tree.{Name}
use Rattle.mz_tree.specs.Data as pure
use Rattle.mz_tree.specs.Data.{Given, values, is_name}
use Rattle.mz_grammar.specs.Tokens.{place}
use Rattle.mz_grammar.specs.RulesPromise.{IsWithin, IsLongestPrefix}
use Rattle.mz_grammar.specs.Tests.{ident_in}
use Rattle.mz_grammar.specs.Data.{Dimensions, dimensions_of, Place, Value, Ruled, rule, file, item, datum, named, sized, index_sets, plains, rows, row, plain, range, set, bounds, ones, one, literal_in, negated_in}
use Rattle.mz_grammar_ebnf.specs.Next.{Next}
use Rattle.mz_grammar_ebnf.specs.DataSyntax as ebnf
use Rattle.mz_grammar_ebnf.specs.DataSyntax.{Phrase, Meaning, Derives, DerivesFile, list, optional}
use Rattle.mz_grammar_ebnf.specs.Promise.{ArePositive}
use Rattle.mz_grammar_ebnf.proofs.Means as meant
use Rattle.mz_grammar_ebnf.proofs.Means.{Tells, next_symbol, next_told, Says, said}

-- What is claimed of the parts

-- the elements up to the closing symbol
abbrev pub Closed : Symbol → Symbol → (p : Phrase) → ℕ → List Token → List (Meaning p) → List Token → Type 0
Closed closing s p k ts xs us = (vs : List Token) × Derives k (optional s p) ts xs vs × Next (Sym closing) vs us

abbrev pub Claim : (n : Place) → ℕ → List Token → Value n → List Token → Type 0
Claim (file d) k ts x us = ArePositive d → Derives k (optional SSemi (ebnf.item d)) ts x us
Claim (item d) k ts x us = ArePositive d → Derives k (ebnf.item d) ts x us
Claim (datum d) k ts x us = (x.0 ≡ place ts) × (ArePositive d → Derives k (ebnf.datum d) ts x.1 us)
Claim (named o n) k ts x us = (d : Dimensions) (hs : List Token) → ArePositive d → d n ≡ o → Next (Ident n) hs ts → Derives k (ebnf.datum d) hs x us
Claim (sized m) k ts x us = (d : Dimensions) (n : Name) (hs bs : List Token) → ArePositive d → d n ≡ Some m → Next (Ident n) hs bs → Next (Sym SLParen) bs ts → Derives (suc k) (ebnf.datum d) hs x us
Claim (index_sets zero) k ts xs us = (xs ≡ []) × ((us ≡ ts) ⊎ Next (Sym SComma) ts us)
Claim (index_sets (suc m)) k ts xs us = (vs : List Token) × Derives k (list SComma ebnf.set) ts xs vs × Next (Sym SComma) vs us × (length xs ≡ suc m)
Claim plains k ts xs us = Closed SRBrack SComma ebnf.plain k ts xs us
Claim rows k ts ls us = Closed SRRows SBar (list SComma ebnf.plain) k ts ls us
Claim row k ts xs us = Derives k (list SComma ebnf.plain) ts xs us
Claim plain k ts x us = (x.0 ≡ place ts) × Derives k ebnf.plain ts x.1 us
Claim (range v) k ts x us = (hs : List Token) → Derives k ebnf.one hs v ts → Derives k ebnf.plain hs x us
Claim set k ts x us = Derives k ebnf.set ts x us
Claim (bounds free v) k ts x us = (hs : List Token) → is_name v ≡ free → Derives k ebnf.one hs v ts → Derives k ebnf.set hs x us
Claim ones k ts xs us = Closed SRBrace SComma ebnf.one k ts xs us
Claim one k ts x us = (x.0 ≡ place ts) × Derives k ebnf.one ts x.1 us

abbrev Means : {n : Place} → ℕ → List Token → ℕ → List Token → Ruled n → Type 0
Means start from room ts p = meant.Means Claim start from room ts p

some_inner : {A : Type 0} {x y : A} → Some x ≡ Some y → x ≡ y
some_inner e = cc

-- What tokens tell

named_by : (n : Name) (t : Tok) → ident_in t ≡ Some n → t ≡ Ident n
named_by n (Ident m) e = cc
named_by n _ e = absurd (cc)

is_named : {n : Name} {ts us : List Token} → Tells ident_in n ts us → Next (Ident n) ts us
is_named {n = n} o = next_told Ident (named_by n) o

abbrev IsOne : pure.Value → Tok → Type 0
IsOne v t = (k : ℕ) (ts us : List Token) → Next t ts us → Derives k ebnf.one ts v us

literal_is : (t : Tok) → Says IsOne (literal_in t) t
literal_is (Word KTrue) = λ k ts us c. ebnf.a_true c
literal_is (Word KFalse) = λ k ts us c. ebnf.a_false c
literal_is (Int z) = λ k ts us c. ebnf.a_number z c
literal_is (Ident n) = λ k ts us c. ebnf.a_name n c
literal_is _ = tt

abbrev IsNegated : ℤ → Tok → Type 0
IsNegated z t = (k : ℕ) (ts us vs : List Token) → Next (Sym SMinus) ts us → Next t us vs → Derives k ebnf.one ts (pure.int z) vs

negated_is : (t : Tok) → Says IsNegated (negated_in t) t
negated_is (Int (pos n)) = λ k ts us vs c d. ebnf.a_negative n c d
negated_is _ = tt

one_name : {k : ℕ} {v : pure.Value} {ts us : List Token} → Derives k ebnf.one ts v us → is_name v ≡ true → Derives k ebnf.set ts v us
one_name (ebnf.a_true c) e = absurd (cc)
one_name (ebnf.a_false c) e = absurd (cc)
one_name (ebnf.a_number z c) e = absurd (cc)
one_name (ebnf.a_negative n c d) e = absurd (cc)
one_name (ebnf.a_name n c) e = ebnf.set_name n c

-- Lists

-- an element, its separator, and what is left
after : {s : Symbol} {p : Phrase} {k : ℕ} {ts us vs ws : List Token} {x : Meaning p} {xs : List (Meaning p)} → Derives k p ts x us → Next (Sym s) us vs → Derives k (optional s p) vs xs ws → Derives k (list s p) ts (x ∷ xs) ws
after h c ebnf.none = ebnf.trailing h c
after h c (ebnf.some g) = ebnf.more h c g

-- an index set before others
sets_claim : {k : ℕ} (m : ℕ) {ts us vs ws : List Token} {x : pure.Value} {xs : List pure.Value} → Derives k ebnf.set ts x us → Next (Sym SComma) us vs → Claim (index_sets m) k vs xs ws → Claim (index_sets (suc m)) k ts (x ∷ xs) ws
sets_claim {k = k} zero {ts = ts} {us = us} {vs = vs} {ws = ws} {x = x} {xs = xs} h c g = elim (g.1) [
  | inl e ↦ subst (λ xs. Claim (index_sets 1) k ts (x ∷ xs) ws) (sym g.0) (us, ebnf.last h, subst (λ l. Next (Sym SComma) us l) (sym e) c, refl)
  | inr d ↦ subst (λ xs. Claim (index_sets 1) k ts (x ∷ xs) ws) (sym g.0) (vs, ebnf.trailing h c, d, refl)
]
sets_claim (suc m) h c g = (g.0, ebnf.more h c g.1, g.2, ap suc g.3)

-- an array with index sets has one set at least
sized_claim : {k : ℕ} (m : ℕ) (d : Dimensions) (n : Name) (hs bs ts us vs ws xs : List Token) (ss es : List pure.Value) → ArePositive d → d n ≡ Some m → Next (Ident n) hs bs → Next (Sym SLParen) bs ts
    → Claim (index_sets m) (suc k) ts ss us → Next (Sym SLBrack) us vs → Claim plains k vs es ws → Next (Sym SRParen) ws xs → Derives (suc (suc k)) (ebnf.datum d) hs (pure.array_nd (values ss) (values es)) xs
sized_claim zero d n hs bs ts us vs ws xs ss es p e a b h c g f = absurd (let l = p n 0 e in omega (arith, l))
sized_claim (suc m) d n hs bs ts us vs ws xs ss es p e a b h c g f = ebnf.array_nd n a (e ∙ ap Some (sym h.3)) b h.1 h.2 c g.1 g.2 f

-- as deep as the room says
as_deep : {k r : ℕ} {p : Phrase} {ts us : List Token} {x : Meaning p} → k ≡ r → Derives r p ts x us → Derives k p ts x us
as_deep {p = p} {ts = ts} {us = us} {x = x} e h = subst (λ k. Derives k p ts x us) (sym e) h

assigned : {d : Dimensions} {k : ℕ} (n : Name) (ts us vs ws : List Token) (v : _) → Next (Ident n) ts us → Next (Sym SEq) us vs → Claim (datum d) k vs v ws → ArePositive d → Derives k (ebnf.item d) ts (record { name = n; span = place ts; at = v.0; value = v.1 }) ws
assigned {d = d} {k = k} n ts us vs ws v a c h p = subst (λ at. Derives k (ebnf.item d) ts (record { name = n; span = place ts; at = at; value = v.1 }) ws) (sym h.0) (ebnf.assigns n a c (h.1 p))

-- The parts

all_mean : (n : Place) (k : ℕ) (ts : List Token) → Means k ts k ts (rule n)
unfolding rule
all_mean (file d) k ts = (λ e. (refl, λ p. ebnf.none), λ e i us h. (λ e. (refl, λ p. ebnf.some (ebnf.last (h p))), λ e. (λ vs c more ws g. (refl, λ p. ebnf.some (after (h p) (next_symbol c) (g p))), λ e. tt)))
all_mean (item d) k ts = (λ n us o. (λ vs c v ws h. (refl, λ p. assigned n ts us vs ws v (is_named o) (next_symbol c) h p), λ e. tt), λ e. tt)
all_mean (datum d) k ts = (
  λ r e us c xs vs g. (sym e, (refl, λ p. as_deep e (ebnf.array (next_symbol c) g.1 g.2))),
  λ e. (
    λ r e us c ls vs g. (sym e, (refl, λ p. as_deep e (ebnf.rows (next_symbol c) g.1 g.2))),
    λ e. (
      λ n us o v vs h. (refl, (refl, λ p. h d ts p refl (is_named o))),
      λ e v us h. (refl, (h.0, λ p. ebnf.by_plain h.1)),
    ),
  ),
)
all_mean (named None n) k ts = (λ e. tt, λ e v us h. (refl, λ d hs p q c. ebnf.by_plain (h hs (ebnf.a_name n c))))
all_mean (named (Some m) n) k ts = (
  λ r e us o v vs h. (sym e, λ d hs p q c. as_deep e (h d n hs ts p q c (next_symbol o))),
  λ e v us h. (refl, λ d hs p q c. ebnf.by_plain (h hs (ebnf.a_name n c))),
)
all_mean (sized m) k ts = λ ss us h. (
  λ r e vs c es ws g. (λ xs f. (sym e, λ d n hs bs p q a b. as_deep (ap suc e) (sized_claim m d n hs bs ts us vs ws xs ss es p q a b (subst (λ k. Claim (index_sets m) k ts ss us) e h) (next_symbol c) g (next_symbol f))), λ e. tt),
  λ e. tt,
)
all_mean (index_sets zero) k ts = (λ us c. (refl, (refl, inr (next_symbol c))), λ e. (refl, (refl, inl refl)))
all_mean (index_sets (suc m)) k ts = λ v us h. (λ vs c xs ws g. (refl, sets_claim m h (next_symbol c) g), λ e. tt)
all_mean plains k ts = (
  λ us c. (refl, (ts, ebnf.none, next_symbol c)),
  λ e v us h. (
    λ vs c xs ws g. (refl, (g.0, ebnf.some (after h.1 (next_symbol c) g.1), g.2)),
    λ e. (λ vs c. (refl, (us, ebnf.some (ebnf.last h.1), next_symbol c)), λ e. tt),
  ),
)
all_mean rows k ts = (
  λ us c. (refl, (ts, ebnf.none, next_symbol c)),
  λ e l us h. (
    λ vs c ls ws g. (refl, (g.0, ebnf.some (after h (next_symbol c) g.1), g.2)),
    λ e. (λ vs c. (refl, (us, ebnf.some (ebnf.last h), next_symbol c)), λ e. tt),
  ),
)
all_mean row k ts = λ v us h. (λ vs c. (λ e. (refl, ebnf.trailing h.1 (next_symbol c)), λ e xs ws g. (refl, ebnf.more h.1 (next_symbol c) g)), λ e. (refl, ebnf.last h.1))
all_mean plain k ts = (
  λ r e us c xs vs g. (sym e, (refl, ebnf.by_set (as_deep e (ebnf.braces (next_symbol c) g.1 g.2)))),
  λ e. (λ us c. (refl, (refl, ebnf.absent (next_symbol c))), λ e v us h w vs g. (refl, (h.0, g ts h.1))),
)
all_mean (range v) k ts = (λ us c w vs h. (refl, λ hs g. ebnf.by_set (ebnf.range g (next_symbol c) h.1)), λ e. (refl, λ hs g. ebnf.by_one g))
all_mean set k ts = (λ r e us c xs vs g. (sym e, as_deep e (ebnf.braces (next_symbol c) g.1 g.2)), λ e v us h w vs g. (refl, g ts refl h.1))
all_mean (bounds true v) k ts = (λ us c w vs h. (refl, λ hs e g. ebnf.range g (next_symbol c) h.1), λ q. (refl, λ hs e g. one_name g e))
all_mean (bounds false v) k ts = (λ us c w vs h. (refl, λ hs e g. ebnf.range g (next_symbol c) h.1), λ q. tt)
all_mean ones k ts = (
  λ us c. (refl, (ts, ebnf.none, next_symbol c)),
  λ e v us h. (
    λ vs c xs ws g. (refl, (g.0, ebnf.some (after h.1 (next_symbol c) g.1), g.2)),
    λ e. (λ vs c. (refl, (us, ebnf.some (ebnf.last h.1), next_symbol c)), λ e. tt),
  ),
)
all_mean one k ts = (
  λ us c. (λ z vs o. let t = said IsNegated negated_is o in (refl, (refl, t.1 k ts us vs (next_symbol c) t.2)), λ e. tt),
  λ e. (λ v us o. let t = said IsOne literal_is o in (refl, (refl, t.1 k ts us t.2)), λ e. tt),
)

-- A file

pub file_derived : (d : Dimensions) → ArePositive d → (room : ℕ) (tokens : List Token) (items : List Given) → IsWithin rule (file d) room tokens items → DerivesFile d room tokens items
file_derived d p room tokens items h = subst (λ ts. DerivesFile d room ts items) (append-nil tokens) (meant.taken_means Claim rule all_mean (file d) h [] refl p)

-- each name of an array has a dimension at least
positive : (names : List (List ℕ)) → ArePositive (dimensions_of names)
unfolding dimensions_of
positive names n m e = go (bytes_eq (text_of names n) (codes "array1d")) (bytes_eq (text_of names n) (codes "array2d")) (bytes_eq (text_of names n) (codes "array3d")) (bytes_eq (text_of names n) (codes "array4d")) (bytes_eq (text_of names n) (codes "array5d")) (bytes_eq (text_of names n) (codes "array6d")) e
  where
    go : (a b c d e f : Bool) → (if a then Some 1 else (if b then Some 2 else (if c then Some 3 else (if d then Some 4 else (if e then Some 5 else (if f then Some 6 else None)))))) ≡ Some m → 0 < m
    go true b c d e f h = subst (λ m. 0 < m) (some_inner h) (omega arith)
    go false true c d e f h = subst (λ m. 0 < m) (some_inner h) (omega arith)
    go false false true d e f h = subst (λ m. 0 < m) (some_inner h) (omega arith)
    go false false false true e f h = subst (λ m. 0 < m) (some_inner h) (omega arith)
    go false false false false true f h = subst (λ m. 0 < m) (some_inner h) (omega arith)
    go false false false false false true h = subst (λ m. 0 < m) (some_inner h) (omega arith)
    go false false false false false false h = absurd (cc)

pub data_files_derived : (names : List (List ℕ)) (room : ℕ) (tokens : List Token) (items : List Given) → IsWithin rule (file (dimensions_of names)) room tokens items → DerivesFile (dimensions_of names) room tokens items
data_files_derived names room tokens items h = file_derived (dimensions_of names) (positive names) room tokens items h

pub data_items_derived : (names : List (List ℕ)) (room : ℕ) (tokens : List Token) (items : List Given) → IsLongestPrefix rule (file (dimensions_of names)) room tokens [] items → DerivesFile (dimensions_of names) room tokens items
data_items_derived names room tokens items h = data_files_derived names room tokens items (subst (λ ts. IsWithin rule (file (dimensions_of names)) room ts items) (sym (h.split ∙ append-nil h.prefix)) h.reads)
