-- What is found in bytes that begin with a token, a blank, a comment or a form that is left out.
use Rattle.std.proofs.Common.{◌≡◌, ℕ, suc, ◌+◌, ◌≤◌, List, [], ◌∷◌, ◌++◌, length, take, drop, Bool, true, false, ◌&&◌, not, refl, sym, ap, subst, ◌∙◌, arith, append_assoc, length-append}
use Rattle.std.specs.Prelude.{Option, Some, None, nat_eq, pos, if◌then◌else◌}
use Rattle.std.specs.List.{take_while, prefix_len, list_all}
use Rattle.std.proofs.lemmas.List.{take_at, drop_at}
use Rattle.std.proofs.lemmas.Bool.{false≢true, and_parts}
use Rattle.std.proofs.lemmas.Bool.Decides.{nat_tests, Decides-eqb}
use Rattle.mz_base.specs.declared.kind.Kind.TheVariants.{LeftOut}
use Rattle.mz_base.specs.declared.keyword.Keyword.{Keyword}
use Rattle.mz_lexer.specs.declared.token.Symbol.{Symbol}
use Rattle.mz_lexer.specs.declared.token.Symbol.TheVariants.{SLParen, SRParen, SLBrack, SRBrack, SLBrace, SRBrace, SLRows, SRRows, SBar, SComma, SSemi, SColon, SColons, SDots, SEq, SEqEq, SNe, SLt, SLe, SGt, SGe, SRimp, SImp, SIff, SOr, SAnd, SPlus, SMinus, SStar, SCaret, SConcat, SAbsent}
use Rattle.mz_lexer.specs.Bytes.{first_byte, second_byte, third_byte, is_blank, is_newline, is_hex_digit, is_octal_digit}
use Rattle.mz_base.specs.Words.{is_letter, is_digit, is_word_byte}
use Rattle.mz_base.specs.Keywords.{keyword_text, keyword_of}
use Rattle.mz_lexer.specs.LeftOut.{is_left_out_keyword}
use Rattle.mz_lexer.specs.Symbols.{symbol_text}
use Rattle.mz_lexer.specs.StepsSymbols.{symbol_at}
use Rattle.mz_lexer.specs.Numbers.{number_of, goes_on}
use Rattle.mz_lexer.specs.Texts.{is_plain, escape_value, content_len, content_from, meaning, meaning_from}
use Rattle.mz_lexer.specs.Lexemes as lx
use Rattle.mz_lexer.specs.Steps as steps
use Rattle.mz_lexer.specs.Lexemes.{Lexeme}
use Rattle.mz_lexer.specs.Steps.{Prefix, prefix_of, word_prefix, keyword_or_name, number_prefix, piece_prefix, piece_end, comment_len, comment_of, symbol_or_fault}
use Rattle.mz_base.specs.Words.{is_word}
use Rattle.mz_lexer.specs.Lexes.{are_digits, Means, nothing, a_byte, an_escape, IsContent, Spells, an_identifier, a_keyword, decimal, hexadecimal, octal, a_symbol, a_text, a_head, a_middle, a_tail}
use Rattle.mz_lexer.proofs.Pieces.{valid_piece}
use Rattle.mz_lexer.proofs.Runs.{run_holds}
use Rattle.mz_base.proofs.Choices.{pick}
use Rattle.mz_lexer.proofs.Spellings.{keyword_known, keyword_found, keyword_is_word, IsCovered, covered, symbol_is_covered}

-- a token of a number, whatever the number
abbrev pub number_token : ℕ → List ℕ → ℕ → Prefix
number_token base ds n = steps.token (lx.int (pos (number_of base ds))) n

-- the literal that comes first, whatever its number
unfoldable pub number_raw : List ℕ → Prefix
number_raw bs =
    if nat_eq (first_byte bs) 48 && (nat_eq (second_byte bs) 120 && is_hex_digit (third_byte bs))
    then number_token 16 (take_while is_hex_digit (drop 2 bs)) (2 + prefix_len is_hex_digit (drop 2 bs)) else
    if nat_eq (first_byte bs) 48 && (nat_eq (second_byte bs) 111 && is_octal_digit (third_byte bs))
    then number_token 8 (take_while is_octal_digit (drop 2 bs)) (2 + prefix_len is_octal_digit (drop 2 bs)) else
    if goes_on (drop (prefix_len is_digit bs) bs) then steps.refusal LeftOut 0
    else number_token 10 (take_while is_digit bs) (prefix_len is_digit bs)

-- what comes first, whatever the number of a literal
unfoldable pub raw_prefix : Bool → List ℕ → Prefix
raw_prefix later bs = if is_digit (first_byte bs) then number_raw bs else prefix_of later bs

-- the token comes first, or a longer one, or a form that is left out
pub data Covers (v : List ℕ) (y : Lexeme) : Prefix → Type 0 where
  by_token : {x : Lexeme} {m : ℕ} → length v ≤ m → (length v ≡ m → y ≡ x) → Covers v y (steps.token x m)
  by_left_out : Covers v y (steps.refusal LeftOut 0)

letter_no_blank : (b : ℕ) → is_letter b ≡ true → is_blank b ≡ false
letter_no_blank b is = grind (arith, nat_tests)

letter_no_digit : (b : ℕ) → is_letter b ≡ true → is_digit b ≡ false
letter_no_digit b is = grind (arith, nat_tests)

letter_in_word : (b : ℕ) → is_letter b ≡ true → is_word_byte b ≡ true
letter_in_word b is = rw is refl

digit_no_blank : (b : ℕ) → is_digit b ≡ true → is_blank b ≡ false
digit_no_blank b is = grind (arith, nat_tests)

digit_no_letter : (b : ℕ) → is_digit b ≡ true → is_letter b ≡ false
digit_no_letter b is = grind (arith, nat_tests)

pub raw_is_prefix : (later : Bool) (bs : List ℕ) → is_digit (first_byte bs) ≡ false → raw_prefix later bs ≡ prefix_of later bs
unfolding raw_prefix
raw_is_prefix later bs isnt = rw isnt refl

pub raw_is_number : (later : Bool) (bs : List ℕ) → is_digit (first_byte bs) ≡ true → raw_prefix later bs ≡ number_raw bs
unfolding raw_prefix
raw_is_number later bs is = rw is refl

pub prefix_is_blank : (later : Bool) (bs : List ℕ) → is_blank (first_byte bs) ≡ true → prefix_of later bs ≡ steps.gap 1
unfolding prefix_of
prefix_is_blank later bs is = rw is refl

pub prefix_is_word : (later : Bool) (bs : List ℕ) → is_letter (first_byte bs) ≡ true → prefix_of later bs ≡ word_prefix bs
unfolding prefix_of
prefix_is_word later bs is = rw (letter_no_blank _ is, is) refl

pub prefix_is_number : (later : Bool) (bs : List ℕ) → is_digit (first_byte bs) ≡ true → prefix_of later bs ≡ number_prefix bs
unfolding prefix_of
prefix_is_number later bs is = rw (digit_no_blank _ is, digit_no_letter _ is, is) refl

pub prefix_is_line : (later : Bool) (bs : List ℕ) → prefix_of later (37 ∷ bs) ≡ steps.gap (1 + prefix_len (λ b. not (is_newline b)) bs)
unfolding prefix_of
prefix_is_line true bs = refl
prefix_is_line false bs = refl

pub prefix_is_comment : (later : Bool) (bs : List ℕ) → prefix_of later (47 ∷ 42 ∷ bs) ≡ comment_of (comment_len bs)
unfolding prefix_of
prefix_is_comment true bs = refl
prefix_is_comment false bs = refl

pub prefix_is_text : (later : Bool) (bs : List ℕ) → prefix_of later (34 ∷ bs) ≡ piece_prefix false bs
unfolding prefix_of
prefix_is_text true bs = refl
prefix_is_text false bs = refl

pub prefix_is_later : (bs : List ℕ) → prefix_of true (41 ∷ bs) ≡ piece_prefix true bs
unfolding prefix_of
prefix_is_later bs = refl

-- words
abbrev word_lexeme : List ℕ → Option Keyword → Lexeme
word_lexeme w None = lx.ident w
word_lexeme w (Some k) = lx.word k

pub word_is : (bs : List ℕ) → word_prefix bs ≡ keyword_or_name (take_while is_word_byte bs) (prefix_len is_word_byte bs) (keyword_of (take_while is_word_byte bs))
unfolding word_prefix
word_is bs = refl

word_covered : (v : List ℕ) (y : Lexeme) (run : List ℕ) (m : ℕ) → length v ≤ m → (length v ≡ m → run ≡ v) → y ≡ word_lexeme v (keyword_of v) → Covers v y (keyword_or_name run m (keyword_of run))
word_covered v y run m le same is = go (keyword_of run) refl
  where
    go : (o : Option Keyword) → keyword_of run ≡ o → Covers v y (keyword_or_name run m o)
    go None e = by_token le (λ h. is ∙ ap (λ w. word_lexeme w (keyword_of w)) (sym (same h)) ∙ ap (word_lexeme run) e)
    go (Some k) e = pick (Covers v y) (is_left_out_keyword k) _ _ (λ _. by_left_out) (λ _. by_token le (λ h. is ∙ ap (λ w. word_lexeme w (keyword_of w)) (sym (same h)) ∙ ap (word_lexeme run) e))

run_take : (p : ℕ → Bool) (v after : List ℕ) → length v ≡ prefix_len p (v ++ after) → take_while p (v ++ after) ≡ v
run_take p v after e = take_at v after _ e

pub word_letters : (b : ℕ) (w : List ℕ) → is_word (b ∷ w) ≡ true → (is_letter b ≡ true) × (list_all is_word_byte (b ∷ w) ≡ true)
word_letters b w is =
    let parts = and_parts (is_letter b) (list_all is_word_byte w) is in
    (parts.0, rw (letter_in_word b parts.0) parts.1)

covers_word : (later : Bool) (v after : List ℕ) (y : Lexeme) → is_word v ≡ true → y ≡ word_lexeme v (keyword_of v) → Covers v y (raw_prefix later (v ++ after))
covers_word later [] after y is same = cc
covers_word later (b ∷ w) after y is same =
    let parts = word_letters b w is in
    let v : List ℕ = b ∷ w in
    subst (Covers v y) (sym (raw_is_prefix later (v ++ after) (letter_no_digit b parts.0) ∙ prefix_is_word later (v ++ after) parts.0 ∙ word_is (v ++ after)))
    (word_covered v y (take_while is_word_byte (v ++ after)) (prefix_len is_word_byte (v ++ after)) (run_holds is_word_byte v after parts.1) (run_take is_word_byte v after) same)

no_keyword : (w : List ℕ) → ((k : Keyword) → w ≡ keyword_text k → ⊥) → keyword_of w ≡ None
no_keyword w isnt = go (keyword_of w) refl
  where
    go : (o : Option Keyword) → keyword_of w ≡ o → o ≡ None
    go None e = refl
    go (Some k) e = absurd (isnt k (sym (keyword_known w k e)))

-- numbers
number_covered : (p : ℕ → Bool) (base skip : ℕ) (prefix ds after : List ℕ) → length prefix ≡ skip → list_all p ds ≡ true → Covers (prefix ++ ds) (lx.int (pos (number_of base ds))) (number_token base (take_while p (ds ++ after)) (skip + prefix_len p (ds ++ after)))
number_covered p base skip prefix ds after len all =
    by_token (omega (arith, length-append prefix ds, run_holds p ds after all, len))
    (λ h. ap (λ us. lx.int (pos (number_of base us))) (sym (run_take p ds after (omega (arith, length-append prefix ds, len, h)))))

are_all : (p : ℕ → Bool) (d : ℕ) (ds : List ℕ) → are_digits p (d ∷ ds) ≡ true → (p d ≡ true) × (list_all p (d ∷ ds) ≡ true)
are_all p d ds is = ((and_parts (p d) (list_all p ds) is).0, is)

hex_raw : (d : ℕ) (bs : List ℕ) → is_hex_digit d ≡ true → number_raw (48 ∷ 120 ∷ d ∷ bs) ≡ number_token 16 (take_while is_hex_digit (d ∷ bs)) (2 + prefix_len is_hex_digit (d ∷ bs))
unfolding number_raw
hex_raw d bs is = rw is refl

octal_raw : (d : ℕ) (bs : List ℕ) → is_octal_digit d ≡ true → number_raw (48 ∷ 111 ∷ d ∷ bs) ≡ number_token 8 (take_while is_octal_digit (d ∷ bs)) (2 + prefix_len is_octal_digit (d ∷ bs))
unfolding number_raw
octal_raw d bs is = rw is refl

-- digits before another base's letter are one zero
one_digit : (d : ℕ) (ds after : List ℕ) (letter : ℕ) → is_digit letter ≡ false → list_all is_digit (d ∷ ds) ≡ true → nat_eq (first_byte (ds ++ after)) letter ≡ true → ds ≡ []
one_digit d [] after letter isnt all is = refl
one_digit d (e ∷ ds) after letter isnt all is =
    let digit = (and_parts (is_digit e) (list_all is_digit ds) (and_parts (is_digit d) (list_all is_digit (e ∷ ds)) all).1).0 in
    absurd (false≢true (sym isnt ∙ ap is_digit (sym ((Decides-eqb e letter).0 is)) ∙ digit))

short_number : (d : ℕ) (ds : List ℕ) (y x : Lexeme) (n : ℕ) → ds ≡ [] → Covers (d ∷ ds) y (steps.token x (2 + n))
short_number d ds y x n none = by_token (omega (arith, ap length none)) (λ h. absurd (omega (arith, ap length none, h)))

decimal_covered : (d : ℕ) (ds after : List ℕ) → list_all is_digit (d ∷ ds) ≡ true → Covers (d ∷ ds) (lx.int (pos (number_of 10 (d ∷ ds)))) (number_raw ((d ∷ ds) ++ after))
unfolding number_raw
decimal_covered d ds after all =
    let P = Covers (d ∷ ds) (lx.int (pos (number_of 10 (d ∷ ds)))) in
    let bs : List ℕ = (d ∷ ds) ++ after in
    pick P (nat_eq d 48 && (nat_eq (first_byte (ds ++ after)) 120 && is_hex_digit (first_byte (drop 1 (ds ++ after))))) _ _
    (λ t. short_number d ds _ _ _ (one_digit d ds after 120 refl all (and_parts _ _ (and_parts _ _ t).1).0)) (λ _.
    pick P (nat_eq d 48 && (nat_eq (first_byte (ds ++ after)) 111 && is_octal_digit (first_byte (drop 1 (ds ++ after))))) _ _
    (λ t. short_number d ds _ _ _ (one_digit d ds after 111 refl all (and_parts _ _ (and_parts _ _ t).1).0)) (λ _.
    pick P (goes_on (drop (prefix_len is_digit bs) bs)) _ _ (λ _. by_left_out) (λ _.
    by_token (run_holds is_digit (d ∷ ds) after all) (λ h. ap (λ us. lx.int (pos (number_of 10 us))) (sym (run_take is_digit (d ∷ ds) after h))))))

-- a literal, with the letter of its base
covers_hexadecimal : (later : Bool) (ds after : List ℕ) → are_digits is_hex_digit ds ≡ true → Covers (48 ∷ 120 ∷ ds) (lx.int (pos (number_of 16 ds))) (raw_prefix later (48 ∷ 120 ∷ (ds ++ after)))
covers_hexadecimal later [] after is = cc
covers_hexadecimal later (d ∷ ds) after is =
    let parts = are_all is_hex_digit d ds is in
    subst (Covers (48 ∷ 120 ∷ d ∷ ds) (lx.int (pos (number_of 16 (d ∷ ds))))) (sym (raw_is_number later (48 ∷ 120 ∷ d ∷ (ds ++ after)) refl ∙ hex_raw d (ds ++ after) parts.0))
    (number_covered is_hex_digit 16 2 (48 ∷ 120 ∷ []) (d ∷ ds) after refl parts.1)

covers_octal : (later : Bool) (ds after : List ℕ) → are_digits is_octal_digit ds ≡ true → Covers (48 ∷ 111 ∷ ds) (lx.int (pos (number_of 8 ds))) (raw_prefix later (48 ∷ 111 ∷ (ds ++ after)))
covers_octal later [] after is = cc
covers_octal later (d ∷ ds) after is =
    let parts = are_all is_octal_digit d ds is in
    subst (Covers (48 ∷ 111 ∷ d ∷ ds) (lx.int (pos (number_of 8 (d ∷ ds))))) (sym (raw_is_number later (48 ∷ 111 ∷ d ∷ (ds ++ after)) refl ∙ octal_raw d (ds ++ after) parts.0))
    (number_covered is_octal_digit 8 2 (48 ∷ 111 ∷ []) (d ∷ ds) after refl parts.1)

covers_decimal : (later : Bool) (ds after : List ℕ) → are_digits is_digit ds ≡ true → Covers ds (lx.int (pos (number_of 10 ds))) (raw_prefix later (ds ++ after))
covers_decimal later [] after is = cc
covers_decimal later (d ∷ ds) after is =
    let parts = are_all is_digit d ds is in
    subst (Covers (d ∷ ds) (lx.int (pos (number_of 10 (d ∷ ds))))) (sym (raw_is_number later ((d ∷ ds) ++ after) parts.0)) (decimal_covered d ds after parts.1)

-- pieces of texts
pub content_of : {bs v : List ℕ} → Means bs v → (rest : List ℕ) → content_from false rest ≡ 0 → content_from false (bs ++ rest) ≡ length bs
unfolding content_from
content_of nothing rest stop = stop
content_of (a_byte plain m) rest stop = rw plain (ap suc (content_of m rest stop))
content_of (an_escape escape m) rest stop = rw escape (ap (λ n. suc (suc n)) (content_of m rest stop))

plain_no_backslash : (b : ℕ) → is_plain b ≡ true → nat_eq b 92 ≡ false
plain_no_backslash b is = grind (arith, nat_tests)

never : (t : Bool) → (t && false) ≡ false
never true = refl
never false = refl

pub meaning_of : {bs v : List ℕ} → Means bs v → meaning bs ≡ v
unfolding meaning_from
meaning_of nothing = refl
meaning_of (a_byte {b = b} plain m) = rw (plain_no_backslash b plain) (ap (λ us. b ∷ us) (meaning_of m))
meaning_of (an_escape {b = b} escape m) = rw (never (nat_eq b 92)) (ap (λ us. escape_value b ∷ us) (meaning_of m))

piece_parts : (later : Bool) (bs : List ℕ) → piece_prefix later bs ≡ steps.piece_of later (take (content_len bs) bs) (content_len bs) (drop (content_len bs) bs)
unfolding piece_prefix
piece_parts later bs = refl

-- a content up to a place where none goes on
pub piece_up_to : (later : Bool) (c v rest : List ℕ) → IsContent c v → content_from false rest ≡ 0 → piece_prefix later (c ++ rest) ≡ piece_end later v (length c) rest
piece_up_to later c v rest is stop =
    let len : content_len (c ++ rest) ≡ length c = content_of is.means rest stop in
    let P : ℕ → Prefix = λ k. steps.piece_of later (take k (c ++ rest)) k (drop k (c ++ rest)) in
    let Q : List ℕ → Prefix = λ us. steps.piece_of later us (length c) (drop (length c) (c ++ rest)) in
    let R : List ℕ → Prefix = λ us. steps.piece_of later c (length c) us in
    piece_parts later (c ++ rest) ∙ ap P len ∙ ap Q (take_at c rest (length c) refl) ∙ ap R (drop_at c rest (length c) refl)
    ∙ valid_piece later c rest (length c) is.utf8 refl ∙ ap (λ us. piece_end later us (length c) rest) (meaning_of is.means)

stops_quote : (bs : List ℕ) → content_from false (34 ∷ bs) ≡ 0
unfolding content_from
stops_quote bs = refl

stops_inner : (bs : List ℕ) → content_from false (92 ∷ 40 ∷ bs) ≡ 0
unfolding content_from
stops_inner bs = refl

last_end : (later : Bool) (v : List ℕ) (n : ℕ) (bs : List ℕ) → piece_end later v n (34 ∷ bs) ≡ steps.token (if later then lx.text_tail v else lx.text v) (n + 2)
last_end later v n bs = refl

inner_end : (later : Bool) (v : List ℕ) (n : ℕ) (bs : List ℕ) → piece_end later v n (92 ∷ 40 ∷ bs) ≡ steps.token (if later then lx.text_mid v else lx.text_head v) (n + 3)
inner_end later v n bs = refl

exactly : (v : List ℕ) (y : Lexeme) (n : ℕ) (f : Prefix) → length v ≡ n → f ≡ steps.token y n → Covers v y f
exactly v y n f len e = subst (Covers v y) (sym e) (by_token (omega (arith, len)) (λ _. refl))

last_piece : (later : Bool) (o : ℕ) (c v after : List ℕ) (f : Prefix) → IsContent c v → f ≡ piece_prefix later ((c ++ 34 ∷ []) ++ after) → Covers (o ∷ (c ++ 34 ∷ [])) (if later then lx.text_tail v else lx.text v) f
last_piece later o c v after f is e =
    exactly (o ∷ (c ++ 34 ∷ [])) (if later then lx.text_tail v else lx.text v) (length c + 2) f (omega (arith, length-append c (34 ∷ [])))
    (e ∙ ap (piece_prefix later) (append_assoc c (34 ∷ []) after) ∙ piece_up_to later c v (34 ∷ after) is (stops_quote after) ∙ last_end later v (length c) after)

inner_piece : (later : Bool) (o : ℕ) (c v after : List ℕ) (f : Prefix) → IsContent c v → f ≡ piece_prefix later ((c ++ 92 ∷ 40 ∷ []) ++ after) → Covers (o ∷ (c ++ 92 ∷ 40 ∷ [])) (if later then lx.text_mid v else lx.text_head v) f
inner_piece later o c v after f is e =
    exactly (o ∷ (c ++ 92 ∷ 40 ∷ [])) (if later then lx.text_mid v else lx.text_head v) (length c + 3) f (omega (arith, length-append c (92 ∷ 40 ∷ [])))
    (e ∙ ap (piece_prefix later) (append_assoc c (92 ∷ 40 ∷ []) after) ∙ piece_up_to later c v (92 ∷ 40 ∷ after) is (stops_inner after) ∙ inner_end later v (length c) after)

-- symbols
symbol_covers : (t : Symbol) (y : Lexeme) (b : ℕ) (o : Option (Symbol × ℕ)) → y ≡ lx.sym t → IsCovered t o → Covers (symbol_text t) y (symbol_or_fault b o)
symbol_covers t y b o same (covered {s = s} {n = n} le eq) = by_token le (λ h. same ∙ ap lx.sym (eq h))

pub data IsSymbolByte (later : Bool) (bs : List ℕ) : Type 0 where
  symbol_byte : prefix_of later bs ≡ symbol_or_fault (first_byte bs) (symbol_at (first_byte bs) (second_byte bs) (third_byte bs)) → is_digit (first_byte bs) ≡ false → IsSymbolByte later bs

-- where a symbol comes first, nothing else does
prefix_is_symbol : (later : Bool) (t : Symbol) (after : List ℕ) → (later ≡ true → t ≡ SRParen → ⊥) → IsSymbolByte later (symbol_text t ++ after)
unfolding prefix_of
prefix_is_symbol true SLParen after other = symbol_byte refl refl
prefix_is_symbol false SLParen after other = symbol_byte refl refl
prefix_is_symbol true SRParen after other = absurd (other refl refl)
prefix_is_symbol false SRParen after other = symbol_byte refl refl
prefix_is_symbol true SLBrack after other = symbol_byte refl refl
prefix_is_symbol false SLBrack after other = symbol_byte refl refl
prefix_is_symbol true SRBrack after other = symbol_byte refl refl
prefix_is_symbol false SRBrack after other = symbol_byte refl refl
prefix_is_symbol true SLBrace after other = symbol_byte refl refl
prefix_is_symbol false SLBrace after other = symbol_byte refl refl
prefix_is_symbol true SRBrace after other = symbol_byte refl refl
prefix_is_symbol false SRBrace after other = symbol_byte refl refl
prefix_is_symbol true SLRows after other = symbol_byte refl refl
prefix_is_symbol false SLRows after other = symbol_byte refl refl
prefix_is_symbol true SRRows after other = symbol_byte refl refl
prefix_is_symbol false SRRows after other = symbol_byte refl refl
prefix_is_symbol true SBar after other = symbol_byte refl refl
prefix_is_symbol false SBar after other = symbol_byte refl refl
prefix_is_symbol true SComma after other = symbol_byte refl refl
prefix_is_symbol false SComma after other = symbol_byte refl refl
prefix_is_symbol true SSemi after other = symbol_byte refl refl
prefix_is_symbol false SSemi after other = symbol_byte refl refl
prefix_is_symbol true SColon after other = symbol_byte refl refl
prefix_is_symbol false SColon after other = symbol_byte refl refl
prefix_is_symbol true SColons after other = symbol_byte refl refl
prefix_is_symbol false SColons after other = symbol_byte refl refl
prefix_is_symbol true SDots after other = symbol_byte refl refl
prefix_is_symbol false SDots after other = symbol_byte refl refl
prefix_is_symbol true SEq after other = symbol_byte refl refl
prefix_is_symbol false SEq after other = symbol_byte refl refl
prefix_is_symbol true SEqEq after other = symbol_byte refl refl
prefix_is_symbol false SEqEq after other = symbol_byte refl refl
prefix_is_symbol true SNe after other = symbol_byte refl refl
prefix_is_symbol false SNe after other = symbol_byte refl refl
prefix_is_symbol true SLt after other = symbol_byte refl refl
prefix_is_symbol false SLt after other = symbol_byte refl refl
prefix_is_symbol true SLe after other = symbol_byte refl refl
prefix_is_symbol false SLe after other = symbol_byte refl refl
prefix_is_symbol true SGt after other = symbol_byte refl refl
prefix_is_symbol false SGt after other = symbol_byte refl refl
prefix_is_symbol true SGe after other = symbol_byte refl refl
prefix_is_symbol false SGe after other = symbol_byte refl refl
prefix_is_symbol true SRimp after other = symbol_byte refl refl
prefix_is_symbol false SRimp after other = symbol_byte refl refl
prefix_is_symbol true SImp after other = symbol_byte refl refl
prefix_is_symbol false SImp after other = symbol_byte refl refl
prefix_is_symbol true SIff after other = symbol_byte refl refl
prefix_is_symbol false SIff after other = symbol_byte refl refl
prefix_is_symbol true SOr after other = symbol_byte refl refl
prefix_is_symbol false SOr after other = symbol_byte refl refl
prefix_is_symbol true SAnd after other = symbol_byte refl refl
prefix_is_symbol false SAnd after other = symbol_byte refl refl
prefix_is_symbol true SPlus after other = symbol_byte refl refl
prefix_is_symbol false SPlus after other = symbol_byte refl refl
prefix_is_symbol true SMinus after other = symbol_byte refl refl
prefix_is_symbol false SMinus after other = symbol_byte refl refl
prefix_is_symbol true SStar after other = symbol_byte refl refl
prefix_is_symbol false SStar after other = symbol_byte refl refl
prefix_is_symbol true SCaret after other = symbol_byte refl refl
prefix_is_symbol false SCaret after other = symbol_byte refl refl
prefix_is_symbol true SConcat after other = symbol_byte refl refl
prefix_is_symbol false SConcat after other = symbol_byte refl refl
prefix_is_symbol true SAbsent after other = symbol_byte refl refl
prefix_is_symbol false SAbsent after other = symbol_byte refl refl

covers_symbol : (later : Bool) (t : Symbol) (after : List ℕ) → (later ≡ true → t ≡ SRParen → ⊥) → Covers (symbol_text t) (lx.sym t) (raw_prefix later (symbol_text t ++ after))
covers_symbol later t after other = elim (prefix_is_symbol later t after other) [
  | symbol_byte is isnt ↦
      subst (Covers (symbol_text t) (lx.sym t)) (sym (raw_is_prefix later (symbol_text t ++ after) isnt ∙ is)) (symbol_covers t (lx.sym t) (first_byte (symbol_text t ++ after)) _ refl (symbol_is_covered t after))
]

-- a token that begins here comes first, or a longer one, or a form that is left out
pub covers : {later : Bool} {v : List ℕ} {y : Lexeme} → Spells later v y → (after : List ℕ) → Covers v y (raw_prefix later (v ++ after))
covers (an_identifier {later = later} {w = w} is isnt) after = covers_word later w after _ is (ap (word_lexeme w) (sym (no_keyword w isnt)))
covers (a_keyword {later = later} k) after = covers_word later (keyword_text k) after _ (keyword_is_word k) (ap (word_lexeme (keyword_text k)) (sym (keyword_found k)))
covers (decimal {later = later} {ds = ds} is) after = covers_decimal later ds after is
covers (hexadecimal {later = later} {ds = ds} is) after = covers_hexadecimal later ds after is
covers (octal {later = later} {ds = ds} is) after = covers_octal later ds after is
covers (a_symbol {later = later} s other) after = covers_symbol later s after other
covers (a_text {later = later} c {v = v} is) after = last_piece false 34 c v after _ is (raw_is_prefix later (34 ∷ ((c ++ 34 ∷ []) ++ after)) refl ∙ prefix_is_text later _)
covers (a_head {later = later} c {v = v} is) after = inner_piece false 34 c v after _ is (raw_is_prefix later (34 ∷ ((c ++ 92 ∷ 40 ∷ []) ++ after)) refl ∙ prefix_is_text later _)
covers (a_middle c {v = v} is) after = inner_piece true 41 c v after _ is (raw_is_prefix true (41 ∷ ((c ++ 92 ∷ 40 ∷ []) ++ after)) refl ∙ prefix_is_later _)
covers (a_tail c {v = v} is) after = last_piece true 41 c v after _ is (raw_is_prefix true (41 ∷ ((c ++ 34 ∷ []) ++ after)) refl ∙ prefix_is_later _)
