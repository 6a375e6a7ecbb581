-- Where a form that is left out begins, that is the first fault.
use Rattle.std.proofs.Common.{◌≡◌, ℕ, ◌<◌, ◌≤◌, List, [], ◌∷◌, ◌++◌, length, drop, Bool, true, false, ◌&&◌, ◌||◌, refl, sym, ap, subst, ◌∙◌, arith}
use Rattle.std.specs.Prelude.{Option, Some, None, nat_eq, nat_le}
use Rattle.std.specs.List.{take_while, prefix_len, list_all}
use Rattle.std.proofs.lemmas.List.{take_at, drop_at}
use Rattle.std.proofs.lemmas.Bool.{false≢true, and_parts}
use Rattle.std.proofs.lemmas.Bool.Decides.{nat_tests, Decides-eqb}
use Rattle.mz_base.specs.declared.kind.Kind.TheVariants.{LeftOut}
use Rattle.mz_base.specs.declared.keyword.Keyword.{Keyword}
use Rattle.mz_lexer.specs.Bytes.{first_byte, second_byte, is_blank, is_hex_digit, is_octal_digit, is_left_out_byte}
use Rattle.mz_base.specs.Words.{is_letter, is_digit, is_word_byte}
use Rattle.mz_base.specs.Keywords.{keyword_text, keyword_of}
use Rattle.mz_lexer.specs.LeftOut.{is_left_out_keyword}
use Rattle.mz_lexer.specs.StepsSymbols.{symbol_at}
use Rattle.mz_lexer.specs.Numbers.{goes_on}
use Rattle.mz_lexer.specs.Steps.{Prefix, refusal, prefix_of, keyword_or_name, number_prefix}
use Rattle.mz_base.specs.Words.{is_word}
use Rattle.mz_lexer.specs.Lexes.{are_digits, IsLeftOut, left_byte, left_slash, left_number, left_keyword}
use Rattle.mz_lexer.proofs.Runs.{run_is}
use Rattle.mz_lexer.proofs.Spellings.{keyword_found, keyword_is_word}
use Rattle.mz_lexer.proofs.Prefixes.{prefix_is_word, prefix_is_number, word_is, word_letters}

IsLeft : Bool → ℕ → List ℕ → Type 0
IsLeft later b bs = prefix_of later (b ∷ bs) ≡ refusal LeftOut 0

other_byte : (b k : ℕ) → 128 ≤ b → k < 128 → nat_eq b k ≡ false
other_byte b k high low = grind (arith, nat_tests)

high_symbol : (b c d : ℕ) → 128 ≤ b → symbol_at b c d ≡ None
unfolding symbol_at
high_symbol b c d high =
    let h = λ (k : ℕ) (low : k < 128). other_byte b k high low in
    rw (h 40 (omega arith), h 41 (omega arith), h 91 (omega arith), h 93 (omega arith), h 123 (omega arith), h 125 (omega arith), h 124 (omega arith), h 44 (omega arith), h 59 (omega arith), h 58 (omega arith), h 46 (omega arith), h 61 (omega arith), h 33 (omega arith), h 60 (omega arith), h 62 (omega arith), h 45 (omega arith), h 92 (omega arith), h 47 (omega arith), h 43 (omega arith), h 42 (omega arith), h 94 (omega arith)) refl

high_tests : (b : ℕ) → 128 ≤ b → (is_blank b ≡ false) × (is_letter b ≡ false) × (is_digit b ≡ false) × (is_left_out_byte b ≡ true)
high_tests b high = (grind (arith, nat_tests), grind (arith, nat_tests), grind (arith, nat_tests), grind (arith, nat_tests))

high_left : (later : Bool) (b : ℕ) (bs : List ℕ) → 128 ≤ b → prefix_of later (b ∷ bs) ≡ refusal LeftOut 0
unfolding prefix_of
high_left true b bs high =
    let t = high_tests b high in
    rw (t.0, t.1, t.2, other_byte b 34 high (omega arith), other_byte b 41 high (omega arith), other_byte b 37 high (omega arith), other_byte b 47 high (omega arith), high_symbol b (first_byte bs) (second_byte bs) high, t.3) refl
high_left false b bs high =
    let t = high_tests b high in
    rw (t.0, t.1, t.2, other_byte b 34 high (omega arith), other_byte b 37 high (omega arith), other_byte b 47 high (omega arith), high_symbol b (first_byte bs) (second_byte bs) high, t.3) refl

pub data IsOneOf (b : ℕ) : Type 0 where
  quote : b ≡ 39 → IsOneOf b
  high : 128 ≤ b → IsOneOf b
  tilde : b ≡ 126 → IsOneOf b
  dollar : b ≡ 36 → IsOneOf b
  backquote : b ≡ 96 → IsOneOf b
  underscore : b ≡ 95 → IsOneOf b

at_least : (n b : ℕ) → nat_le n b ≡ true → n ≤ b
at_least n b e = grind (arith, nat_tests)

one_of : (b : ℕ) → is_left_out_byte b ≡ true → nat_eq b 47 ≡ false → IsOneOf b
one_of b is isnt = go (nat_eq b 39) (nat_le 128 b) (nat_eq b 126) (nat_eq b 36) (nat_eq b 96) (nat_eq b 95) (nat_eq b 47) refl refl refl refl refl refl refl is
  where
    go : (t u v w x y z : Bool) → nat_eq b 39 ≡ t → nat_le 128 b ≡ u → nat_eq b 126 ≡ v → nat_eq b 36 ≡ w → nat_eq b 96 ≡ x → nat_eq b 95 ≡ y → nat_eq b 47 ≡ z → (t || (u || (v || (w || (x || (y || z)))))) ≡ true → IsOneOf b
    go true u v w x y z e f g h i j k is' = quote ((Decides-eqb b 39).0 e)
    go false true v w x y z e f g h i j k is' = high (at_least 128 b f)
    go false false true w x y z e f g h i j k is' = tilde ((Decides-eqb b 126).0 g)
    go false false false true x y z e f g h i j k is' = dollar ((Decides-eqb b 36).0 h)
    go false false false false true y z e f g h i j k is' = backquote ((Decides-eqb b 96).0 i)
    go false false false false false true z e f g h i j k is' = underscore ((Decides-eqb b 95).0 j)
    go false false false false false false z e f g h i j k is' = absurd (false≢true (sym isnt ∙ k ∙ is'))

low_left : (later : Bool) (bs : List ℕ) → IsLeft later 39 bs × IsLeft later 126 bs × IsLeft later 36 bs × IsLeft later 96 bs × IsLeft later 95 bs
unfolding prefix_of symbol_at IsLeft
low_left true bs = (refl, refl, refl, refl, refl)
low_left false bs = (refl, refl, refl, refl, refl)

byte_left : (later : Bool) (b : ℕ) (bs : List ℕ) → IsOneOf b → prefix_of later (b ∷ bs) ≡ refusal LeftOut 0
unfolding IsLeft
byte_left later b bs (quote e) = subst (λ x. prefix_of later (x ∷ bs) ≡ refusal LeftOut 0) (sym e) (low_left later bs).0
byte_left later b bs (high h) = high_left later b bs h
byte_left later b bs (tilde e) = subst (λ x. prefix_of later (x ∷ bs) ≡ refusal LeftOut 0) (sym e) (low_left later bs).1
byte_left later b bs (dollar e) = subst (λ x. prefix_of later (x ∷ bs) ≡ refusal LeftOut 0) (sym e) (low_left later bs).2
byte_left later b bs (backquote e) = subst (λ x. prefix_of later (x ∷ bs) ≡ refusal LeftOut 0) (sym e) (low_left later bs).3
byte_left later b bs (underscore e) = subst (λ x. prefix_of later (x ∷ bs) ≡ refusal LeftOut 0) (sym e) (low_left later bs).4

slash_left : (later : Bool) (bs : List ℕ) → nat_eq (first_byte bs) 92 ≡ false → nat_eq (first_byte bs) 42 ≡ false → prefix_of later (47 ∷ bs) ≡ refusal LeftOut 0
unfolding prefix_of symbol_at
slash_left true bs no_and no_comment = rw (no_comment, no_and) refl
slash_left false bs no_and no_comment = rw (no_comment, no_and) refl

point_or_letter : (b : ℕ) (x y : Bool) → ((nat_eq b 46 && x) || ((nat_eq b 101 || nat_eq b 69) && y)) ≡ true → (is_digit b ≡ false) × (nat_eq b 120 ≡ false) × (nat_eq b 111 ≡ false)
point_or_letter b x y is = go (nat_eq b 46) (nat_eq b 101) (nat_eq b 69) refl refl refl is
  where
    at : (k : ℕ) → b ≡ k → is_digit k ≡ false → nat_eq k 120 ≡ false → nat_eq k 111 ≡ false → (is_digit b ≡ false) × (nat_eq b 120 ≡ false) × (nat_eq b 111 ≡ false)
    at k e d h o = rw e (d, h, o)

    go : (t u v : Bool) → nat_eq b 46 ≡ t → nat_eq b 101 ≡ u → nat_eq b 69 ≡ v → ((t && x) || ((u || v) && y)) ≡ true → (is_digit b ≡ false) × (nat_eq b 120 ≡ false) × (nat_eq b 111 ≡ false)
    go true u v e f g is' = at 46 ((Decides-eqb b 46).0 e) refl refl refl
    go false true v e f g is' = at 101 ((Decides-eqb b 101).0 f) refl refl refl
    go false false true e f g is' = at 69 ((Decides-eqb b 69).0 g) refl refl refl
    go false false false e f g is' = cc

digit_other : (d k : ℕ) → is_digit d ≡ true → is_digit k ≡ false → nat_eq d k ≡ false
digit_other d k is isnt = go (nat_eq d k) refl
  where
    go : (t : Bool) → nat_eq d k ≡ t → t ≡ false
    go true e = absurd (false≢true (sym isnt ∙ ap is_digit (sym ((Decides-eqb d k).0 e)) ∙ is))
    go false e = refl

-- after the first of some decimal digits comes no other base's letter
second_other : (d : ℕ) (ds bs : List ℕ) (k : ℕ) → list_all is_digit (d ∷ ds) ≡ true → is_digit k ≡ false → nat_eq (first_byte bs) k ≡ false → nat_eq (first_byte (ds ++ bs)) k ≡ false
second_other d [] bs k all isnt no_k = no_k
second_other d (e ∷ ds) bs k all isnt no_k = digit_other e k (and_parts (is_digit e) (list_all is_digit ds) (and_parts (is_digit d) (list_all is_digit (e ∷ ds)) all).1).0 isnt

no_base : (x y : Bool) (z : Bool) → y ≡ false → (x && (y && z)) ≡ false
no_base true y z e = rw e refl
no_base false y z e = refl

number_left : (d : ℕ) (ds bs : List ℕ) → list_all is_digit (d ∷ ds) ≡ true → goes_on bs ≡ true → number_prefix ((d ∷ ds) ++ bs) ≡ refusal LeftOut 0
unfolding number_prefix
number_left d ds bs all on =
    let byte = point_or_letter (first_byte bs) _ _ on in
    let len : prefix_len is_digit ((d ∷ ds) ++ bs) ≡ length (d ∷ ds) = run_is is_digit (d ∷ ds) bs all byte.0 in
    let rest : goes_on (drop (prefix_len is_digit ((d ∷ ds) ++ bs)) ((d ∷ ds) ++ bs)) ≡ true = ap (λ n. goes_on (drop n ((d ∷ ds) ++ bs))) len ∙ ap goes_on (drop_at (d ∷ ds) bs (length (d ∷ ds)) refl) ∙ on in
    let no_hex : (nat_eq d 48 && (nat_eq (first_byte (ds ++ bs)) 120 && is_hex_digit (first_byte (drop 1 (ds ++ bs))))) ≡ false = no_base _ _ _ (second_other d ds bs 120 all refl byte.1) in
    let no_octal : (nat_eq d 48 && (nat_eq (first_byte (ds ++ bs)) 111 && is_octal_digit (first_byte (drop 1 (ds ++ bs))))) ≡ false = no_base _ _ _ (second_other d ds bs 111 all refl byte.2) in
    rw (no_hex, no_octal, rest) refl

digits_left : (later : Bool) (ds bs : List ℕ) → are_digits is_digit ds ≡ true → goes_on bs ≡ true → prefix_of later (ds ++ bs) ≡ refusal LeftOut 0
digits_left later [] bs is on = cc
digits_left later (d ∷ ds) bs is on = prefix_is_number later ((d ∷ ds) ++ bs) (and_parts (is_digit d) (list_all is_digit ds) is).0 ∙ number_left d ds bs is on

word_left : (later : Bool) (w bs : List ℕ) (k : Keyword) → w ≡ keyword_text k → is_word w ≡ true → is_left_out_keyword k ≡ true → is_word_byte (first_byte bs) ≡ false → prefix_of later (w ++ bs) ≡ refusal LeftOut 0
word_left later [] bs k e is left stop = cc
word_left later (b ∷ w) bs k e is left stop =
    let parts = word_letters b w is in
    let v : List ℕ = b ∷ w in
    let len : prefix_len is_word_byte (v ++ bs) ≡ length v = run_is is_word_byte v bs parts.1 stop in
    let run : take_while is_word_byte (v ++ bs) ≡ v = take_at v bs _ (sym len) in
    let found : keyword_of (take_while is_word_byte (v ++ bs)) ≡ Some k = ap keyword_of (run ∙ e) ∙ keyword_found k in
    let P : Option Keyword → Prefix = λ o. keyword_or_name (take_while is_word_byte (v ++ bs)) (prefix_len is_word_byte (v ++ bs)) o in
    prefix_is_word later (v ++ bs) parts.0 ∙ word_is (v ++ bs) ∙ ap P found ∙ rw left refl

pub left_prefix : {bs : List ℕ} → IsLeftOut bs → (later : Bool) → prefix_of later bs ≡ refusal LeftOut 0
left_prefix (left_byte {b = b} bs is isnt) later = byte_left later b bs (one_of b is isnt)
left_prefix (left_slash bs no_and no_comment) later = slash_left later bs no_and no_comment
left_prefix (left_number ds bs is on) later = digits_left later ds bs is on
left_prefix (left_keyword k bs left stop) later = word_left later (keyword_text k) bs k refl (keyword_is_word k) left stop
