-- The outcome of some bytes is what they are lexed to, and nothing else is.
use Rattle.std.proofs.Common.{◌≡◌, ℕ, zero, suc, ◌+◌, ◌<◌, ◌≤◌, List, [], ◌∷◌, ◌++◌, length, take, drop, Bool, true, false, not, refl, sym, ap, subst, ◌∙◌, arith, append_assoc, length-append, length-take, length-drop}
use Rattle.std.specs.Prelude.{pos, Err}
use Rattle.std.specs.List.{prefix_len, list_all}
use Rattle.std.proofs.lemmas.List.{take-append-drop, take_at, drop_at}
use Rattle.std.proofs.lemmas.Bool.Decides.{Decides-eqb}
use Rattle.mz_base.specs.declared.fault.Span.{Span}
use Rattle.mz_base.specs.declared.kind.Kind.TheVariants.{Lexical, LeftOut, Bounds}
use Rattle.mz_lexer.specs.declared.opening.Opening.{Opening}
use Rattle.mz_lexer.specs.declared.token.Symbol.{Symbol}
use Rattle.mz_lexer.specs.declared.token.Symbol.TheVariants.{SLParen, SRParen, SLBrack, SRBrack, SLBrace, SRBrace, SLRows, SRRows, SBar, SComma, SSemi, SColon, SColons, SDots, SEq, SEqEq, SNe, SLt, SLe, SGt, SGe, SRimp, SImp, SIff, SOr, SAnd, SPlus, SMinus, SStar, SCaret, SConcat, SAbsent}
use Rattle.mz_lexer.specs.Bytes.{is_blank, is_newline}
use Rattle.mz_base.specs.Words.{is_digit}
use Rattle.mz_lexer.specs.Numbers.{limit}
use Rattle.mz_base.specs.Keywords.{keyword_text}
use Rattle.mz_lexer.specs.Symbols.{symbol_text}
use Rattle.mz_lexer.specs.Lexemes as lx
use Rattle.mz_lexer.specs.Steps as steps
use Rattle.mz_lexer.specs.Lexemes.{Lexeme, begins_piece, after, fault, opens_behind, Outcome, with_token}
use Rattle.mz_lexer.specs.Steps.{Prefix, prefix_of, comment_of, outcome_at, outcome_of}
use Rattle.mz_base.specs.Faults.{start_of}
use Rattle.mz_base.specs.Words.{is_word}
use Rattle.mz_lexer.specs.Lexes.{are_digits, Spells, an_identifier, a_keyword, decimal, hexadecimal, octal, a_symbol, a_text, a_head, a_middle, a_tail, IsLongest, IsLeftOut, left_byte, left_slash, left_number, left_keyword, comment, EndsFirst, NothingBegins, IsLineEnd, IsInLimit, Lexed, no_bytes, a_blank, a_line_comment, a_comment, a_token, left_out, past_limit, nothing_begins, in_a_text, IsDetermined}
use Rattle.mz_lexer.proofs.Runs.{all_of_run}
use Rattle.mz_lexer.proofs.Spellings.{keyword_is_word}
use Rattle.mz_lexer.proofs.Prefixes.{raw_prefix, prefix_is_blank, prefix_is_line, prefix_is_comment}
use Rattle.mz_lexer.proofs.LeftOuts.{left_prefix}
use Rattle.mz_lexer.proofs.Shapes.{Shape, blank, line, noted, spelled, great, left, lexical, stuck, shape_cons}
use Rattle.mz_lexer.proofs.Exact.{shorter, no_gap, no_lexical, raw_token, line_end, line_run, comment_exact, stuck_prefix, nothing_there}
use Rattle.mz_lexer.proofs.Steps.{outcome_end, step_gap, step_token, step_fault, of_is}

-- a token has bytes
word_some : (w : List ℕ) → is_word w ≡ true → 0 < length w
word_some [] is = cc
word_some (b ∷ w) is = omega arith

digits_some : (p : ℕ → Bool) (ds : List ℕ) → are_digits p ds ≡ true → 0 < length ds
digits_some p [] is = cc
digits_some p (d ∷ ds) is = omega arith

symbol_some : (s : Symbol) → 0 < length (symbol_text s)
symbol_some SLParen = omega arith
symbol_some SRParen = omega arith
symbol_some SLBrack = omega arith
symbol_some SRBrack = omega arith
symbol_some SLBrace = omega arith
symbol_some SRBrace = omega arith
symbol_some SLRows = omega arith
symbol_some SRRows = omega arith
symbol_some SBar = omega arith
symbol_some SComma = omega arith
symbol_some SSemi = omega arith
symbol_some SColon = omega arith
symbol_some SColons = omega arith
symbol_some SDots = omega arith
symbol_some SEq = omega arith
symbol_some SEqEq = omega arith
symbol_some SNe = omega arith
symbol_some SLt = omega arith
symbol_some SLe = omega arith
symbol_some SGt = omega arith
symbol_some SGe = omega arith
symbol_some SRimp = omega arith
symbol_some SImp = omega arith
symbol_some SIff = omega arith
symbol_some SOr = omega arith
symbol_some SAnd = omega arith
symbol_some SPlus = omega arith
symbol_some SMinus = omega arith
symbol_some SStar = omega arith
symbol_some SCaret = omega arith
symbol_some SConcat = omega arith
symbol_some SAbsent = omega arith

spells_some : {later : Bool} {w : List ℕ} {x : Lexeme} → Spells later w x → 0 < length w
spells_some (an_identifier {w = w} is isnt) = word_some w is
spells_some (a_keyword k) = word_some (keyword_text k) (keyword_is_word k)
spells_some (decimal {ds = ds} is) = digits_some is_digit ds is
spells_some (hexadecimal is) = omega arith
spells_some (octal is) = omega arith
spells_some (a_symbol s other) = symbol_some s
spells_some (a_text bs is) = omega arith
spells_some (a_head bs is) = omega arith
spells_some (a_middle bs is) = omega arith
spells_some (a_tail bs is) = omega arith

left_some : {bs : List ℕ} → IsLeftOut bs → 0 < length bs
left_some (left_byte bs is isnt) = omega arith
left_some (left_slash bs is isnt) = omega arith
left_some (left_number ds bs is on) = omega (arith, digits_some is_digit ds is, length-append ds bs)
left_some (left_keyword k bs is stop) = omega (arith, word_some (keyword_text k) (keyword_is_word k), length-append (keyword_text k) bs)

token_no_left : {x : Lexeme} {m : ℕ} → steps.refusal LeftOut 0 ≡ steps.token x m → ⊥
token_no_left e = cc

bounds_no_left : steps.refusal LeftOut 0 ≡ steps.refusal Bounds 0 → ⊥
bounds_no_left e = cc

-- what is known of the bytes after, as far as they are few
abbrev Behind : ℕ → Type 0
Behind n = (opens : List Opening) (at : Span) (bs : List ℕ) → length bs ≤ n → Lexed opens at bs (outcome_at opens at bs)

fewer : (k n b : ℕ) (bs : List ℕ) → 0 < k → length (b ∷ bs) ≤ suc n → length (drop k (b ∷ bs)) ≤ n
fewer k n b bs some le = omega (arith, length-drop k (b ∷ bs))

long_take : (m : ℕ) (bs : List ℕ) → m ≤ length bs → length (take m bs) ≡ m
long_take m bs le = omega (arith, length-take m bs)

longest_of : (later : Bool) (bs : List ℕ) (x : Lexeme) (m : ℕ) → m ≤ length bs → raw_prefix later bs ≡ steps.token x m → IsLongest later (take m bs) (drop m bs)
longest_of later bs x m le raw v behind y split spells = omega (arith, long_take m bs le, (shorter spells behind bs (split ∙ take-append-drop m bs) raw).le)

sound_gap : (n k b : ℕ) (bs : List ℕ) (opens : List Opening) (at : Span) → length (b ∷ bs) ≤ suc n → Behind n → 0 < k → prefix_of (begins_piece opens) (b ∷ bs) ≡ steps.gap k
    → (Lexed opens (after at (take k (b ∷ bs))) (drop k (b ∷ bs)) (outcome_at opens at (b ∷ bs)) → Lexed opens at (b ∷ bs) (outcome_at opens at (b ∷ bs))) → Lexed opens at (b ∷ bs) (outcome_at opens at (b ∷ bs))
sound_gap n k b bs opens at few rest some e make =
    make (subst (Lexed opens (after at (take k (b ∷ bs))) (drop k (b ∷ bs))) (sym (step_gap opens at (b ∷ bs) k (omega arith) some e)) (rest opens (after at (take k (b ∷ bs))) (drop k (b ∷ bs)) (fewer k n b bs some few)))

sound_line : (n b : ℕ) (bs : List ℕ) (opens : List Opening) (at : Span) → length (b ∷ bs) ≤ suc n → Behind n → b ≡ 37 → prefix_of (begins_piece opens) (b ∷ bs) ≡ steps.gap (1 + prefix_len (λ c. not (is_newline c)) bs) → Lexed opens at (b ∷ bs) (outcome_at opens at (b ∷ bs))
sound_line n b bs opens at few rest is e =
    let k : ℕ = prefix_len (λ c. not (is_newline c)) bs in
    let out : Outcome = outcome_at opens at (b ∷ bs) in
    let more : take (1 + k) (b ∷ bs) ≡ 37 ∷ take k bs = ap (λ (j : ℕ). take j (b ∷ bs)) one_add ∙ ap (λ x. x ∷ take k bs) is in
    let less : drop (1 + k) (b ∷ bs) ≡ drop k bs = ap (λ (j : ℕ). drop j (b ∷ bs)) one_add in
    sound_gap n (1 + k) b bs opens at few rest (omega arith) e (λ h.
    let inner : Lexed opens (after at (37 ∷ take k bs)) (drop k bs) out = subst (λ us. Lexed opens (after at us) (drop k bs) out) more (subst (λ us. Lexed opens (after at (take (1 + k) (b ∷ bs))) us out) less h) in
    let made : Lexed opens at (37 ∷ (take k bs ++ drop k bs)) out = a_line_comment (take k bs) (all_of_run (λ c. not (is_newline c)) bs) (line_end bs) inner in
    subst (λ us. Lexed opens at us out) (ap (λ us. 37 ∷ us) (take-append-drop k bs) ∙ ap (λ x. x ∷ bs) (sym is)) made)
  where
    one_add : {j : ℕ} → 1 + j ≡ suc j
    one_add = omega arith

sound_noted : (n k b : ℕ) (bs : List ℕ) (opens : List Opening) (at : Span) → length (b ∷ bs) ≤ suc n → Behind n → (c r : List ℕ) → EndsFirst c → comment c ++ r ≡ b ∷ bs → k ≡ length (comment c) → prefix_of (begins_piece opens) (b ∷ bs) ≡ steps.gap k → Lexed opens at (b ∷ bs) (outcome_at opens at (b ∷ bs))
sound_noted n k b bs opens at few rest c r first split len e =
    let out : Outcome = outcome_at opens at (b ∷ bs) in
    let more : take k (b ∷ bs) ≡ comment c = ap (take k) (sym split) ∙ take_at (comment c) r k (sym len) in
    let less : drop k (b ∷ bs) ≡ r = ap (drop k) (sym split) ∙ drop_at (comment c) r k (sym len) in
    sound_gap n k b bs opens at few rest (omega (arith, len)) e (λ h.
    let inner : Lexed opens (after at (comment c)) r out = subst (λ us. Lexed opens (after at us) r out) more (subst (λ us. Lexed opens (after at (take k (b ∷ bs))) us out) less h) in
    subst (λ us. Lexed opens at us out) split (a_comment c first inner))

sound_token : (n m b : ℕ) (bs : List ℕ) (opens : List Opening) (at : Span) → length (b ∷ bs) ≤ suc n → Behind n → (x : Lexeme) → Spells (begins_piece opens) (take m (b ∷ bs)) x → m ≤ length (b ∷ bs) → IsInLimit x → prefix_of (begins_piece opens) (b ∷ bs) ≡ steps.token x m → Lexed opens at (b ∷ bs) (outcome_at opens at (b ∷ bs))
sound_token n m b bs opens at few rest x spells le within e =
    let later : Bool = begins_piece opens in
    let all : List ℕ = b ∷ bs in
    let some : 0 < m = omega (arith, spells_some spells, long_take m all le) in
    let longest = longest_of later all x m le (raw_token later all x m e) in
    let whole : take m all ++ drop m all ≡ all = take-append-drop m all in
    let isnt : IsLeftOut (take m all ++ drop m all) → ⊥ = λ l. token_no_left (sym (left_prefix l later) ∙ ap (prefix_of later) whole ∙ e) in
    let out : Outcome = outcome_at (opens_behind x opens) (after at (take m all)) (drop m all) in
    let made : Lexed opens at (take m all ++ drop m all) (with_token (record { lexeme = x; span = at; len = length (take m all) }) out) = a_token (take m all) spells longest within isnt (rest (opens_behind x opens) (after at (take m all)) (drop m all) (fewer m n b bs some few)) in
    let len : with_token (record { lexeme = x; span = at; len = length (take m all) }) out ≡ with_token (record { lexeme = x; span = at; len = m }) out = ap (λ (j : ℕ). with_token (record { lexeme = x; span = at; len = j }) out) (long_take m all le) in
    subst (Lexed opens at all) (len ∙ sym (step_token opens at all x m (omega arith) some e)) (subst (λ us. Lexed opens at us (with_token (record { lexeme = x; span = at; len = length (take m all) }) out)) whole made)

sound_great : (m z b : ℕ) (bs : List ℕ) (opens : List Opening) (at : Span) → Spells (begins_piece opens) (take m (b ∷ bs)) (lx.int (pos z)) → m ≤ length (b ∷ bs) → limit < z → raw_prefix (begins_piece opens) (b ∷ bs) ≡ steps.token (lx.int (pos z)) m → prefix_of (begins_piece opens) (b ∷ bs) ≡ steps.refusal Bounds 0 → Lexed opens at (b ∷ bs) (outcome_at opens at (b ∷ bs))
sound_great m z b bs opens at spells le past raw e =
    let later : Bool = begins_piece opens in
    let all : List ℕ = b ∷ bs in
    let whole : take m all ++ drop m all ≡ all = take-append-drop m all in
    let isnt : IsLeftOut (take m all ++ drop m all) → ⊥ = λ l. bounds_no_left (sym (left_prefix l later) ∙ ap (prefix_of later) whole ∙ e) in
    let made : Lexed opens at (take m all ++ drop m all) (Err (fault Bounds at)) = past_limit (take m all) (drop m all) z spells (longest_of later all (lx.int (pos z)) m le raw) past isnt in
    subst (Lexed opens at all) (sym (step_fault opens at all Bounds 0 (omega arith) e)) (subst (λ us. Lexed opens at us (Err (fault Bounds at))) whole made)

sound_cons : (n b : ℕ) (bs : List ℕ) (opens : List Opening) (at : Span) → length (b ∷ bs) ≤ suc n → Behind n → (f : Prefix) → prefix_of (begins_piece opens) (b ∷ bs) ≡ f → Shape (begins_piece opens) (b ∷ bs) f → Lexed opens at (b ∷ bs) (outcome_at opens at (b ∷ bs))
sound_cons n b bs opens at few rest f e (blank is) = sound_gap n 1 b bs opens at few rest (omega arith) e (λ h. a_blank is h)
sound_cons n b bs opens at few rest f e (line is) = sound_line n b bs opens at few rest is e
sound_cons n b bs opens at few rest f e (noted {n = k} c r first split len) = sound_noted n k b bs opens at few rest c r first split len e
sound_cons n b bs opens at few rest f e (spelled {x = x} {m = m} spells le within) = sound_token n m b bs opens at few rest x spells le within e
sound_cons n b bs opens at few rest f e (great m z spells le past raw) = sound_great m z b bs opens at spells le past raw e
sound_cons n b bs opens at few rest f e (left is) = subst (Lexed opens at (b ∷ bs)) (sym (step_fault opens at (b ∷ bs) LeftOut 0 (omega arith) e)) (left_out is)
sound_cons n b bs opens at few rest f e lexical = subst (Lexed opens at (b ∷ bs)) (sym (step_fault opens at (b ∷ bs) Lexical 0 (omega arith) e)) (nothing_begins (nothing_there (begins_piece opens) b bs e))
sound_cons n b bs opens at few rest f e (stuck {n = k} c r v opens' is st split len) =
    let more : take k (b ∷ bs) ≡ b ∷ c = ap (λ us. take k (b ∷ us)) split ∙ take_at (b ∷ c) r k (omega (arith, len)) in
    let made : Lexed opens at ((b ∷ c) ++ r) (Err (fault Lexical (after at (b ∷ c)))) = in_a_text c r opens' is st in
    subst (Lexed opens at (b ∷ bs)) (ap (λ us. Err (fault Lexical (after at us))) (sym more) ∙ sym (step_fault opens at (b ∷ bs) Lexical k (omega arith) e))
    (subst (λ us. Lexed opens at (b ∷ us) (Err (fault Lexical (after at (b ∷ c))))) (sym split) made)

sound_within : (n : ℕ) (opens : List Opening) (at : Span) (bs : List ℕ) → length bs ≤ n → Lexed opens at bs (outcome_at opens at bs)
sound_within n opens at [] le = subst (Lexed opens at []) (sym (outcome_end opens at)) no_bytes
sound_within zero opens at (b ∷ bs) le = absurd (omega arith)
sound_within (suc n) opens at (b ∷ bs) le = sound_cons n b bs opens at le (λ o a us few. sound_within n o a us few) _ refl (shape_cons (begins_piece opens) b bs)

-- the bytes of a file are lexed to their outcome
pub sound : (file : ℕ) (bytes : List ℕ) → Lexed [] (start_of file) bytes (outcome_of file bytes)
sound file bytes = subst (Lexed [] (start_of file) bytes) (sym (of_is file bytes)) (sound_within (length bytes) [] (start_of file) bytes (omega arith))

-- a token of the relation is the one that comes first
token_same : (later : Bool) (w bs : List ℕ) (x y : Lexeme) (m : ℕ) → Spells later w x → IsLongest later w bs → Spells later (take m (w ++ bs)) y → m ≤ length (w ++ bs) → raw_prefix later (w ++ bs) ≡ steps.token y m → (length w ≡ m) × (x ≡ y)
token_same later w bs x y m spells longest found le raw =
    let short = shorter spells bs (w ++ bs) refl raw in
    let back : length (take m (w ++ bs)) ≤ length w = longest (take m (w ++ bs)) (drop m (w ++ bs)) y (take-append-drop m (w ++ bs)) found in
    let same : length w ≡ m = omega (arith, short.le, back, long_take m (w ++ bs) le) in
    (same, short.same same)

limit_of : (x : Lexeme) (z : ℕ) → x ≡ lx.int (pos z) → IsInLimit x → z ≤ limit
limit_of x z e within = subst IsInLimit e within

token_prefix : (later : Bool) (w bs : List ℕ) (x : Lexeme) → Spells later w x → IsLongest later w bs → IsInLimit x → (IsLeftOut (w ++ bs) → ⊥) → (f : Prefix) → prefix_of later (w ++ bs) ≡ f → Shape later (w ++ bs) f → f ≡ steps.token x (length w)
token_prefix later w bs x spells longest within isnt f e (blank is) = absurd (no_gap spells bs (w ++ bs) refl e)
token_prefix later w bs x spells longest within isnt f e (line is) = absurd (no_gap spells bs (w ++ bs) refl e)
token_prefix later w bs x spells longest within isnt f e (noted c r first split len) = absurd (no_gap spells bs (w ++ bs) refl e)
token_prefix later w bs x spells longest within isnt f e (spelled {x = y} {m = m} found le within') =
    let h = token_same later w bs x y m spells longest found le (raw_token later (w ++ bs) y m e) in
    ap (λ k. steps.token y k) (sym h.0) ∙ ap (λ z. steps.token z (length w)) (sym h.1)
token_prefix later w bs x spells longest within isnt f e (great m z found le past raw) =
    let h = token_same later w bs x (lx.int (pos z)) m spells longest found le raw in absurd (omega (arith, past, limit_of x z h.1 within))
token_prefix later w bs x spells longest within isnt f e (left is) = absurd (isnt is)
token_prefix later w bs x spells longest within isnt f e lexical = absurd (no_lexical spells bs (w ++ bs) refl e)
token_prefix later w bs x spells longest within isnt f e (stuck c r v opens is st split len) = absurd (no_lexical spells bs (w ++ bs) refl e)

great_prefix : (later : Bool) (w bs : List ℕ) (n : ℕ) → Spells later w (lx.int (pos n)) → IsLongest later w bs → limit < n → (IsLeftOut (w ++ bs) → ⊥) → (f : Prefix) → prefix_of later (w ++ bs) ≡ f → Shape later (w ++ bs) f → f ≡ steps.refusal Bounds 0
great_prefix later w bs n spells longest past isnt f e (blank is) = absurd (no_gap spells bs (w ++ bs) refl e)
great_prefix later w bs n spells longest past isnt f e (line is) = absurd (no_gap spells bs (w ++ bs) refl e)
great_prefix later w bs n spells longest past isnt f e (noted c r first split len) = absurd (no_gap spells bs (w ++ bs) refl e)
great_prefix later w bs n spells longest past isnt f e (spelled {x = y} {m = m} found le within) =
    let h = token_same later w bs (lx.int (pos n)) y m spells longest found le (raw_token later (w ++ bs) y m e) in absurd (omega (arith, past, limit_of y n (sym h.1) within))
great_prefix later w bs n spells longest past isnt f e (great m z found le past' raw) = refl
great_prefix later w bs n spells longest past isnt f e (left is) = absurd (isnt is)
great_prefix later w bs n spells longest past isnt f e lexical = absurd (no_lexical spells bs (w ++ bs) refl e)
great_prefix later w bs n spells longest past isnt f e (stuck c r v opens is st split len) = absurd (no_lexical spells bs (w ++ bs) refl e)

true_no_false : true ≡ false → ⊥
true_no_false e = cc

nothing_prefix : (later : Bool) (b : ℕ) (bs : List ℕ) → NothingBegins later (b ∷ bs) → (f : Prefix) → Shape later (b ∷ bs) f → f ≡ steps.refusal Lexical 0
nothing_prefix later b bs none f (blank is) = absurd (true_no_false (sym is ∙ none.no_blank))
nothing_prefix later b bs none f (line is) = absurd (true_no_false (sym ((Decides-eqb b 37).1 is) ∙ none.no_line))
nothing_prefix later b bs none f (noted c r first split len) = absurd (none.no_comment c r split)
nothing_prefix later b bs none f (spelled {x = x} {m = m} spells le within) = absurd (none.no_token (take m (b ∷ bs)) (drop m (b ∷ bs)) x (take-append-drop m (b ∷ bs)) spells)
nothing_prefix later b bs none f (great m z spells le past raw) = absurd (none.no_token (take m (b ∷ bs)) (drop m (b ∷ bs)) (lx.int (pos z)) (take-append-drop m (b ∷ bs)) spells)
nothing_prefix later b bs none f (left is) = absurd (none.no_left_out is)
nothing_prefix later b bs none f lexical = refl
nothing_prefix later b bs none f (stuck c r v opens is st split len) = absurd (true_no_false (sym opens ∙ none.no_piece))

shape_some : (later : Bool) (bs : List ℕ) → 0 < length bs → Shape later bs (prefix_of later bs)
shape_some later [] some = absurd (omega arith)
shape_some later (b ∷ bs) some = shape_cons later b bs

append_some : (w bs : List ℕ) → 0 < length w → 0 < length (w ++ bs)
append_some w bs some = omega (arith, some, length-append w bs)

pass_gap : (opens : List Opening) (at : Span) (w bs : List ℕ) (out : Outcome) → 0 < length w → prefix_of (begins_piece opens) (w ++ bs) ≡ steps.gap (length w) → outcome_at opens (after at w) bs ≡ out → outcome_at opens at (w ++ bs) ≡ out
pass_gap opens at w bs out some e h =
    step_gap opens at (w ++ bs) (length w) (append_some w bs some) some e
    ∙ ap (λ us. outcome_at opens (after at us) (drop (length w) (w ++ bs))) (take_at w bs (length w) refl)
    ∙ ap (outcome_at opens (after at w)) (drop_at w bs (length w) refl) ∙ h

pass_token : (opens : List Opening) (at : Span) (w bs : List ℕ) (x : Lexeme) (out : Outcome) → 0 < length w → prefix_of (begins_piece opens) (w ++ bs) ≡ steps.token x (length w) → outcome_at (opens_behind x opens) (after at w) bs ≡ out → outcome_at opens at (w ++ bs) ≡ with_token (record { lexeme = x; span = at; len = length w }) out
pass_token opens at w bs x out some e h =
    step_token opens at (w ++ bs) x (length w) (append_some w bs some) some e
    ∙ ap (λ us. with_token (record { lexeme = x; span = at; len = length w }) (outcome_at (opens_behind x opens) (after at us) (drop (length w) (w ++ bs)))) (take_at w bs (length w) refl)
    ∙ ap (λ us. with_token (record { lexeme = x; span = at; len = length w }) (outcome_at (opens_behind x opens) (after at w) us)) (drop_at w bs (length w) refl)
    ∙ ap (with_token (record { lexeme = x; span = at; len = length w })) h

blank_prefix : (later : Bool) (b : ℕ) (bs : List ℕ) → is_blank b ≡ true → prefix_of later ((b ∷ []) ++ bs) ≡ steps.gap 1
blank_prefix later b bs is = prefix_is_blank later (b ∷ bs) is

line_prefix : (later : Bool) (c bs : List ℕ) → list_all (λ b. not (is_newline b)) c ≡ true → IsLineEnd bs → prefix_of later ((37 ∷ c) ++ bs) ≡ steps.gap (length (37 ∷ c))
line_prefix later c bs all end = prefix_is_line later (c ++ bs) ∙ ap (λ (k : ℕ). steps.gap (1 + k)) (line_run c bs all end) ∙ ap steps.gap (omega arith)

comment_prefix : (later : Bool) (c bs : List ℕ) → EndsFirst c → prefix_of later (comment c ++ bs) ≡ steps.gap (length (comment c))
comment_prefix later c bs first =
    ap (λ us. prefix_of later (47 ∷ 42 ∷ us)) (append_assoc c (42 ∷ 47 ∷ []) bs) ∙ prefix_is_comment later (c ++ 42 ∷ 47 ∷ bs) ∙ ap comment_of (comment_exact c bs first)
    ∙ ap steps.gap (omega (arith, length-append c (42 ∷ 47 ∷ [])))

stuck_place : (opens : List Opening) (at : Span) (b : ℕ) (c bs : List ℕ) → prefix_of (begins_piece opens) ((b ∷ c) ++ bs) ≡ steps.refusal Lexical (length c + 1) → outcome_at opens at ((b ∷ c) ++ bs) ≡ Err (fault Lexical (after at (b ∷ c)))
stuck_place opens at b c bs e =
    step_fault opens at ((b ∷ c) ++ bs) Lexical (length c + 1) (omega arith) e
    ∙ ap (λ us. Err (fault Lexical (after at us))) (take_at (b ∷ c) bs (length c + 1) (omega arith))

-- whatever the bytes are lexed to is their outcome
pub complete : {opens : List Opening} {at : Span} {bs : List ℕ} {out : Outcome} → Lexed opens at bs out → outcome_at opens at bs ≡ out
complete (no_bytes {opens = opens} {at = at}) = outcome_end opens at
complete (a_blank {opens = opens} {at = at} {b = b} {bs = bs} {out = out} is rest) = pass_gap opens at (b ∷ []) bs out (omega arith) (blank_prefix (begins_piece opens) b bs is) (complete rest)
complete (a_line_comment {opens = opens} {at = at} c {bs = bs} {out = out} all end rest) = pass_gap opens at (37 ∷ c) bs out (omega arith) (line_prefix (begins_piece opens) c bs all end) (complete rest)
complete (a_comment {opens = opens} {at = at} c {bs = bs} {out = out} first rest) = pass_gap opens at (comment c) bs out (omega arith) (comment_prefix (begins_piece opens) c bs first) (complete rest)
complete (a_token {opens = opens} {at = at} w {bs = bs} {x = x} {out = out} spells longest within isnt rest) =
    let some = spells_some spells in
    pass_token opens at w bs x out some (token_prefix (begins_piece opens) w bs x spells longest within isnt _ refl (shape_some (begins_piece opens) (w ++ bs) (append_some w bs some))) (complete rest)
complete (left_out {opens = opens} {at = at} {bs = bs} is) = step_fault opens at bs LeftOut 0 (left_some is) (left_prefix is (begins_piece opens))
complete (past_limit {opens = opens} {at = at} w bs n spells longest past isnt) =
    let some = append_some w bs (spells_some spells) in
    step_fault opens at (w ++ bs) Bounds 0 some (great_prefix (begins_piece opens) w bs n spells longest past isnt _ refl (shape_some (begins_piece opens) (w ++ bs) some))
complete (nothing_begins {opens = opens} {at = at} {b = b} {bs = bs} none) = step_fault opens at (b ∷ bs) Lexical 0 (omega arith) (nothing_prefix (begins_piece opens) b bs none _ (shape_cons (begins_piece opens) b bs))
complete (in_a_text {opens = opens} {at = at} {b = b} c bs {v = v} opened is st) = stuck_place opens at b c bs (stuck_prefix (begins_piece opens) b c v bs opened is st)

-- the bytes of a file determine their tokens or their first fault
pub determined : IsDetermined
determined file bytes one other this that = sym (complete this) ∙ complete that
