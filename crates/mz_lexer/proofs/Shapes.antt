-- What some bytes begin with, in the language's own words.
use Rattle.std.proofs.Common.{◌≡◌, ℕ, zero, suc, ◌+◌, ◌<◌, ◌≤◌, List, [], ◌∷◌, ◌++◌, length, take, drop, Bool, true, false, ◌&&◌, not, cond, refl, sym, ap, subst, ◌∙◌, inl, inr, arith, append_assoc, length-append, length-take}
use Rattle.std.specs.Prelude.{Option, Some, None, nat_eq, nat_le, pos, if◌then◌else◌}
use Rattle.std.specs.Option.{option_map}
use Rattle.std.specs.List.{take_while, prefix_len}
use Rattle.std.specs.Str.Lossy.{utf8_valid_len}
use Rattle.std.proofs.lemmas.List.{take-append-drop, take_at, drop_at}
use Rattle.std.proofs.lemmas.List.Sums.{take_while-cons, prefix_len-le-length}
use Rattle.std.proofs.lemmas.Str.{utf8_valid_len_le}
use Rattle.std.proofs.lemmas.Bool.{cases_lt, and_parts}
use Rattle.std.proofs.lemmas.Bool.Decides.{nat_tests, Decides-eqb}
use Rattle.mz_base.specs.declared.kind.Kind.TheVariants.{Lexical, LeftOut, Bounds}
use Rattle.mz_base.specs.declared.keyword.Keyword.{Keyword}
use Rattle.mz_lexer.specs.declared.token.Symbol.{Symbol}
use Rattle.mz_lexer.specs.declared.token.Symbol.TheVariants.{SRParen, SAnd}
use Rattle.mz_lexer.specs.Bytes.{first_byte, second_byte, third_byte, is_blank, is_newline, is_hex_digit, is_octal_digit, is_left_out_byte}
use Rattle.mz_base.specs.Words.{is_letter, is_digit, is_word_byte}
use Rattle.mz_base.specs.Keywords.{keyword_text, keyword_of}
use Rattle.mz_lexer.specs.LeftOut.{is_left_out_keyword}
use Rattle.mz_lexer.specs.Symbols.{symbol_text}
use Rattle.mz_lexer.specs.StepsSymbols.{symbol_at}
use Rattle.mz_lexer.specs.Numbers.{limit, number_of, goes_on}
use Rattle.mz_lexer.specs.Texts.{is_plain, content_len, content_from}
use Rattle.mz_lexer.specs.Lexemes as lx
use Rattle.mz_lexer.specs.Steps as steps
use Rattle.mz_lexer.specs.Lexemes.{Lexeme}
use Rattle.mz_lexer.specs.Steps.{Prefix, prefix_of, word_prefix, keyword_or_name, number_prefix, literal, piece_prefix, piece_of, piece_end, comment_len, comment_of, ends_comment, symbol_or_fault}
use Rattle.mz_base.specs.Words.{is_word}
use Rattle.mz_lexer.specs.Lexes.{are_digits, Means, IsContent, Spells, an_identifier, a_keyword, decimal, hexadecimal, octal, a_symbol, a_text, a_head, a_middle, a_tail, opens_piece, IsLeftOut, left_byte, left_slash, left_number, left_keyword, comment, EndsFirst, IsStuck, at_no_character, IsInLimit}
use Rattle.mz_lexer.proofs.Runs.{stops_run, all_of_run}
use Rattle.mz_base.proofs.Choices.{pick}
use Rattle.mz_lexer.proofs.Spellings.{keyword_known, keyword_found, IsFound, none_found, one_found, symbol_is_found}
use Rattle.mz_lexer.proofs.Prefixes.{number_raw, number_token, raw_prefix, raw_is_number, word_is, meaning_of}
use Rattle.mz_lexer.proofs.Cuts.{prefix_content, stuck_at, valid_whole, cut_before, high_behind, no_character, valid_prefix, plain_cons}

pub data Shape (later : Bool) (bs : List ℕ) : Prefix → Type 0 where
  blank : is_blank (first_byte bs) ≡ true → Shape later bs (steps.gap 1)
  line : first_byte bs ≡ 37 → Shape later bs (steps.gap (1 + prefix_len (λ b. not (is_newline b)) (drop 1 bs)))
  noted : {n : ℕ} (c rest : List ℕ) → EndsFirst c → comment c ++ rest ≡ bs → n ≡ length (comment c) → Shape later bs (steps.gap n)
  spelled : {x : Lexeme} {m : ℕ} → Spells later (take m bs) x → m ≤ length bs → IsInLimit x → Shape later bs (steps.token x m)
  great : (m z : ℕ) → Spells later (take m bs) (lx.int (pos z)) → m ≤ length bs → limit < z → raw_prefix later bs ≡ steps.token (lx.int (pos z)) m → Shape later bs (steps.refusal Bounds 0)
  left : IsLeftOut bs → Shape later bs (steps.refusal LeftOut 0)
  lexical : Shape later bs (steps.refusal Lexical 0)
  stuck : {n : ℕ} (c rest v : List ℕ) → opens_piece later (first_byte bs) ≡ true → IsContent c v → IsStuck rest → drop 1 bs ≡ c ++ rest → n ≡ length c + 1 → Shape later bs (steps.refusal Lexical n)

some_none : {k : Keyword} → Some k ≡ None → ⊥
some_none e = cc

-- words
letter_in_word : (b : ℕ) → is_letter b ≡ true → is_word_byte b ≡ true
letter_in_word b is = rw is refl

run_is_word : (bs : List ℕ) → is_letter (first_byte bs) ≡ true → is_word (take_while is_word_byte bs) ≡ true
run_is_word [] is = cc
run_is_word (b ∷ bs) is =
    let run : take_while is_word_byte (b ∷ bs) ≡ b ∷ take_while is_word_byte bs = take_while-cons is_word_byte b bs ∙ ap (λ t. cond t (b ∷ take_while is_word_byte bs) []) (letter_in_word b is) in
    rw (run, is) (all_of_run is_word_byte bs)

word_shape : (later : Bool) (bs : List ℕ) → is_letter (first_byte bs) ≡ true → Shape later bs (word_prefix bs)
word_shape later bs is = subst (Shape later bs) (sym (word_is bs)) (go (keyword_of (take_while is_word_byte bs)) refl)
  where
    go : (o : Option Keyword) → keyword_of (take_while is_word_byte bs) ≡ o → Shape later bs (keyword_or_name (take_while is_word_byte bs) (prefix_len is_word_byte bs) o)
    go None e = spelled (an_identifier (run_is_word bs is) (λ k same. some_none (sym (ap keyword_of same ∙ keyword_found k) ∙ e))) (prefix_len-le-length is_word_byte bs) tt
    go (Some k) e =
        let known : keyword_text k ≡ take_while is_word_byte bs = keyword_known _ k e in
        pick (Shape later bs) (is_left_out_keyword k) _ _
        (λ is_left. left (subst IsLeftOut (ap (λ w. w ++ drop (prefix_len is_word_byte bs) bs) known ∙ take-append-drop (prefix_len is_word_byte bs) bs) (left_keyword k _ is_left (stops_run is_word_byte refl bs))))
        (λ _. spelled (subst (λ w. Spells later w (lx.word k)) known (a_keyword k)) (prefix_len-le-length is_word_byte bs) tt)

-- numbers
pub data NumberShape (bs : List ℕ) : Prefix → Type 0 where
  a_literal : {z m : ℕ} → ((later : Bool) → Spells later (take m bs) (lx.int (pos z))) → m ≤ length bs → NumberShape bs (steps.token (lx.int (pos z)) m)
  no_literal : IsLeftOut bs → NumberShape bs (steps.refusal LeftOut 0)

run_digits : (p : ℕ → Bool) (bs : List ℕ) → p 0 ≡ false → p (first_byte bs) ≡ true → are_digits p (take_while p bs) ≡ true
run_digits p [] never is = absurd (false_true (sym never ∙ is))
  where
    false_true : false ≡ true → ⊥
    false_true e = cc
run_digits p (b ∷ bs) never is =
    let run : take_while p (b ∷ bs) ≡ b ∷ take_while p bs = take_while-cons p b bs ∙ ap (λ t. cond t (b ∷ take_while p bs) []) is in
    rw (run, is) (all_of_run p bs)

first_two : (bs : List ℕ) (k j n : ℕ) → 0 < k → 0 < j → first_byte bs ≡ k → second_byte bs ≡ j → take (2 + n) bs ≡ k ∷ j ∷ take n (drop 2 bs)
first_two [] k j n some more e f = absurd (omega arith)
first_two (b ∷ []) k j n some more e f = absurd (omega arith)
first_two (b ∷ c ∷ bs) k j n some more e f = rw two_more (ap (λ x. x ∷ c ∷ take n bs) e ∙ ap (λ x. k ∷ x ∷ take n bs) f)
  where
    two_more : 2 + n ≡ suc (suc n)
    two_more = omega arith

two_within : (bs : List ℕ) (j n : ℕ) → 0 < j → second_byte bs ≡ j → n ≤ length (drop 2 bs) → 2 + n ≤ length bs
two_within [] j n more f le = absurd (omega arith)
two_within (b ∷ []) j n more f le = absurd (omega arith)
two_within (b ∷ c ∷ bs) j n more f le = omega arith

based_shape : (p : ℕ → Bool) (base letter : ℕ) (bs : List ℕ) → p 0 ≡ false → 0 < letter → (nat_eq (first_byte bs) 48 && (nat_eq (second_byte bs) letter && p (third_byte bs))) ≡ true
    → ((later : Bool) (ds : List ℕ) → are_digits p ds ≡ true → Spells later (48 ∷ letter ∷ ds) (lx.int (pos (number_of base ds))))
    → NumberShape bs (number_token base (take_while p (drop 2 bs)) (2 + prefix_len p (drop 2 bs)))
based_shape p base letter bs never some is spells =
    let outer = and_parts (nat_eq (first_byte bs) 48) _ is in
    let inner = and_parts (nat_eq (second_byte bs) letter) (p (third_byte bs)) outer.1 in
    let second : second_byte bs ≡ letter = (Decides-eqb (second_byte bs) letter).0 inner.0 in
    let prefix : take (2 + prefix_len p (drop 2 bs)) bs ≡ 48 ∷ letter ∷ take_while p (drop 2 bs) = first_two bs 48 letter (prefix_len p (drop 2 bs)) (omega arith) some ((Decides-eqb (first_byte bs) 48).0 outer.0) second in
    a_literal (λ later. subst (λ w. Spells later w (lx.int (pos (number_of base (take_while p (drop 2 bs)))))) (sym prefix) (spells later (take_while p (drop 2 bs)) (run_digits p (drop 2 bs) never inner.1)))
    (two_within bs letter _ some second (prefix_len-le-length p (drop 2 bs)))

pub number_shape : (bs : List ℕ) → is_digit (first_byte bs) ≡ true → NumberShape bs (number_raw bs)
unfolding number_raw
number_shape bs digit =
    pick (NumberShape bs) _ _ _ (λ is. based_shape is_hex_digit 16 120 bs refl (omega arith) is (λ later ds h. hexadecimal h)) (λ _.
    pick (NumberShape bs) _ _ _ (λ is. based_shape is_octal_digit 8 111 bs refl (omega arith) is (λ later ds h. octal h)) (λ _.
    pick (NumberShape bs) (goes_on (drop (prefix_len is_digit bs) bs)) _ _
    (λ on. no_literal (subst IsLeftOut (take-append-drop (prefix_len is_digit bs) bs) (left_number (take_while is_digit bs) (drop (prefix_len is_digit bs) bs) (run_digits is_digit bs refl digit) on)))
    (λ _. a_literal (λ later. decimal (run_digits is_digit bs refl digit)) (prefix_len-le-length is_digit bs))))

-- a literal within the limit, or the fault of one past it
abbrev pub limited : Prefix → Prefix
limited (steps.token (lx.int (pos z)) n) = if nat_le z limit then steps.token (lx.int (pos z)) n else steps.refusal Bounds 0
limited f = f

spread : (t u v : Bool) (xs ys zs : List ℕ) (n m k : ℕ) → cond t (literal 16 xs n) (cond u (literal 8 ys m) (cond v (steps.refusal LeftOut 0) (literal 10 zs k))) ≡ limited (cond t (number_token 16 xs n) (cond u (number_token 8 ys m) (cond v (steps.refusal LeftOut 0) (number_token 10 zs k))))
spread true u v xs ys zs n m k = refl
spread false true v xs ys zs n m k = refl
spread false false true xs ys zs n m k = refl
spread false false false xs ys zs n m k = refl

pub number_is_limited : (bs : List ℕ) → number_prefix bs ≡ limited (number_raw bs)
unfolding number_prefix number_raw
number_is_limited bs =
    spread (nat_eq (first_byte bs) 48 && (nat_eq (second_byte bs) 120 && is_hex_digit (third_byte bs))) (nat_eq (first_byte bs) 48 && (nat_eq (second_byte bs) 111 && is_octal_digit (third_byte bs))) (goes_on (drop (prefix_len is_digit bs) bs))
    (take_while is_hex_digit (drop 2 bs)) (take_while is_octal_digit (drop 2 bs)) (take_while is_digit bs) (2 + prefix_len is_hex_digit (drop 2 bs)) (2 + prefix_len is_octal_digit (drop 2 bs)) (prefix_len is_digit bs)

at_most : (z : ℕ) → nat_le z limit ≡ true → z ≤ limit
at_most z e = grind (arith, nat_tests)

more_than : (z : ℕ) → nat_le z limit ≡ false → limit < z
more_than z e = grind (arith, nat_tests)

limited_shape : (later : Bool) (bs : List ℕ) (f : Prefix) → raw_prefix later bs ≡ f → NumberShape bs f → Shape later bs (limited f)
limited_shape later bs f raw (a_literal {z = z} {m = m} spells le) = pick (Shape later bs) (nat_le z limit) _ _ (λ t. spelled (spells later) le (at_most z t)) (λ t. great m z (spells later) le (more_than z t) raw)
limited_shape later bs f raw (no_literal is) = left is

digits_shape : (later : Bool) (bs : List ℕ) → is_digit (first_byte bs) ≡ true → Shape later bs (number_prefix bs)
digits_shape later bs is = subst (Shape later bs) (sym (number_is_limited bs)) (limited_shape later bs (number_raw bs) (raw_is_number later bs is) (number_shape bs is))

-- comments
pub record IsEnd (bs : List ℕ) (n : ℕ) : Type 0 where
  pub content : List ℕ
  pub rest : List ℕ
  pub split : content ++ 42 ∷ 47 ∷ rest ≡ bs
  pub len : n ≡ length content + 2
  pub first : EndsFirst content

comment_cons : (b : ℕ) (bs : List ℕ) → comment_len (b ∷ bs) ≡ cond (ends_comment (b ∷ bs)) (Some 2) (option_map suc (comment_len bs))
unfolding comment_len
comment_cons b bs = refl

comment_none : comment_len [] ≡ None
unfolding comment_len
comment_none = refl

some_two : (n : ℕ) → Some 2 ≡ Some n → n ≡ 2
some_two n e = cc

never_true : false ≡ true → ⊥
never_true e = cc

ends_here : (b : ℕ) (bs : List ℕ) (n : ℕ) → ends_comment (b ∷ bs) ≡ true → Some 2 ≡ Some n → IsEnd (b ∷ bs) n
ends_here b [] n is e = absurd (never_true (and_parts (nat_eq b 42) false is).1)
ends_here b (c ∷ bs) n is e =
    let parts = and_parts (nat_eq b 42) (nat_eq c 47) is in
    record {
      content = [];
      rest = bs;
      split = sym (ap (λ x. x ∷ c ∷ bs) ((Decides-eqb b 42).0 parts.0) ∙ ap (λ x. 42 ∷ x ∷ bs) ((Decides-eqb c 47).0 parts.1));
      len = some_two n e;
      first = λ v behind same. omega arith;
    }

first_same : (b d : ℕ) (us vs : List ℕ) → 42 ∷ 47 ∷ vs ≡ b ∷ d ∷ us → (42 ≡ b) × (47 ≡ d)
first_same b d us vs e = (ap first_byte e, ap second_byte e)

ends_two : (b d : ℕ) → 42 ≡ b → 47 ≡ d → (nat_eq b 42 && nat_eq d 47) ≡ true
ends_two b d e f = rw (← e, ← f) refl

at_once : (b : ℕ) (c bs behind : List ℕ) → ends_comment (b ∷ (c ++ 42 ∷ 47 ∷ bs)) ≡ false → 42 ∷ 47 ∷ behind ≡ b ∷ (c ++ 42 ∷ 47 ∷ []) → ⊥
at_once b [] bs behind isnt e = absurd (omega (arith, (first_same b 42 (47 ∷ []) behind e).1))
at_once b (d ∷ c) bs behind isnt e = let h = first_same b d (c ++ 42 ∷ 47 ∷ []) behind e in never_true (sym isnt ∙ ends_two b d h.0 h.1)

not_here : (b : ℕ) (c bs : List ℕ) → ends_comment (b ∷ (c ++ 42 ∷ 47 ∷ bs)) ≡ false → EndsFirst c → EndsFirst (b ∷ c)
not_here b c bs isnt first [] behind e = absurd (at_once b c bs behind isnt e)
not_here b c bs isnt first (x ∷ v) behind e = omega (arith, first v behind (ap (drop 1) e))

one_farther : (b : ℕ) (bs : List ℕ) (n : ℕ) → ends_comment (b ∷ bs) ≡ false → IsEnd bs n → IsEnd (b ∷ bs) (suc n)
one_farther b bs n isnt f = record {
  content = b ∷ f.content;
  rest = f.rest;
  split = ap (λ us. b ∷ us) f.split;
  len = omega (arith, f.len);
  first = not_here b f.content f.rest (ap (λ us. ends_comment (b ∷ us)) f.split ∙ isnt) f.first;
}

none_some : {m : ℕ} → None ≡ Some m → ⊥
none_some e = cc

some_same : (m n : ℕ) → Some m ≡ Some n → m ≡ n
some_same m n e = cc

end_cons : (b : ℕ) (bs : List ℕ) (n : ℕ) (t : Bool) (o : Option ℕ) → ends_comment (b ∷ bs) ≡ t → comment_len bs ≡ o → cond t (Some 2) (option_map suc o) ≡ Some n → ((m : ℕ) → comment_len bs ≡ Some m → IsEnd bs m) → IsEnd (b ∷ bs) n
end_cons b bs n true o is at h rest = ends_here b bs n is h
end_cons b bs n false None isnt at h rest = absurd (none_some h)
end_cons b bs n false (Some m) isnt at h rest = subst (IsEnd (b ∷ bs)) (some_same (suc m) n h) (one_farther b bs m isnt (rest m at))

pub comment_ends : (bs : List ℕ) (n : ℕ) → comment_len bs ≡ Some n → IsEnd bs n
comment_ends [] n e = absurd (none_some (sym comment_none ∙ e))
comment_ends (b ∷ bs) n e = end_cons b bs n (ends_comment (b ∷ bs)) (comment_len bs) refl refl (sym (comment_cons b bs) ∙ e) (comment_ends bs)

-- pieces of texts
token_shape : (later : Bool) (w r bs : List ℕ) (x : Lexeme) (m : ℕ) → w ++ r ≡ bs → length w ≡ m → Spells later w x → IsInLimit x → Shape later bs (steps.token x m)
token_shape later w r bs x m split len spells within =
    spelled (subst (λ u. Spells later u x) (sym (sym (ap (take m) split) ∙ take_at w r m len)) spells) (omega (arith, length-append w r, ap length split, len)) within

prefix_is : (bs : List ℕ) (k : ℕ) → 0 < k → nat_eq (first_byte bs) k ≡ true → k ∷ drop 1 bs ≡ bs
prefix_is [] k some e = absurd (omega (arith, (Decides-eqb 0 k).0 e))
prefix_is (b ∷ bs) k some e = ap (λ x. x ∷ bs) (sym ((Decides-eqb b k).0 e))

two_are : (bs : List ℕ) (k j : ℕ) → 0 < k → 0 < j → (nat_eq (first_byte bs) k && nat_eq (second_byte bs) j) ≡ true → k ∷ j ∷ drop 2 bs ≡ bs
two_are bs k j some more e =
    let parts = and_parts (nat_eq (first_byte bs) k) (nat_eq (second_byte bs) j) e in
    let prefix = prefix_is bs k some parts.0 in
    let second : j ∷ drop 1 (drop 1 bs) ≡ drop 1 bs = prefix_is (drop 1 bs) j more parts.1 in
    ap (λ us. k ∷ j ∷ us) (drop_two bs) ∙ ap (λ us. k ∷ us) second ∙ prefix
  where
    drop_two : (us : List ℕ) → drop 2 us ≡ drop 1 (drop 1 us)
    drop_two [] = refl
    drop_two (b ∷ us) = refl

last_shape : (later : Bool) (o : ℕ) (x : Lexeme) (c rest : List ℕ) → nat_eq (first_byte rest) 34 ≡ true → Spells later (o ∷ (c ++ 34 ∷ [])) x → IsInLimit x → Shape later (o ∷ (c ++ rest)) (steps.token x (length c + 2))
last_shape later o x c rest q spells within =
    token_shape later (o ∷ (c ++ 34 ∷ [])) (drop 1 rest) (o ∷ (c ++ rest)) x (length c + 2)
    (ap (λ us. o ∷ us) (append_assoc c (34 ∷ []) (drop 1 rest) ∙ ap (λ us. c ++ us) (prefix_is rest 34 (omega arith) q))) (omega (arith, length-append c (34 ∷ []))) spells within

inner_shape : (later : Bool) (o : ℕ) (x : Lexeme) (c rest : List ℕ) → (nat_eq (first_byte rest) 92 && nat_eq (second_byte rest) 40) ≡ true → Spells later (o ∷ (c ++ 92 ∷ 40 ∷ [])) x → IsInLimit x → Shape later (o ∷ (c ++ rest)) (steps.token x (length c + 3))
inner_shape later o x c rest q spells within =
    token_shape later (o ∷ (c ++ 92 ∷ 40 ∷ [])) (drop 2 rest) (o ∷ (c ++ rest)) x (length c + 3)
    (ap (λ us. o ∷ us) (append_assoc c (92 ∷ 40 ∷ []) (drop 2 rest) ∙ ap (λ us. c ++ us) (two_are rest 92 40 (omega arith) (omega arith) q))) (omega (arith, length-append c (92 ∷ 40 ∷ []))) spells within

quote_end : (later : Bool) (c v rest : List ℕ) → IsContent c v → content_from false rest ≡ 0 → Shape later (34 ∷ (c ++ rest)) (piece_end false v (length c) rest)
quote_end later c v rest is stop =
    pick (Shape later (34 ∷ (c ++ rest))) (nat_eq (first_byte rest) 34) _ _ (λ q. last_shape later 34 (lx.text v) c rest q (a_text c is) tt) (λ no_q.
    pick (Shape later (34 ∷ (c ++ rest))) (nat_eq (first_byte rest) 92 && nat_eq (second_byte rest) 40) _ _ (λ q. inner_shape later 34 (lx.text_head v) c rest q (a_head c is) tt)
    (λ no_i. stuck c rest v refl is (stuck_at rest stop no_q no_i) refl refl))

later_end : (c v rest : List ℕ) → IsContent c v → content_from false rest ≡ 0 → Shape true (41 ∷ (c ++ rest)) (piece_end true v (length c) rest)
later_end c v rest is stop =
    pick (Shape true (41 ∷ (c ++ rest))) (nat_eq (first_byte rest) 34) _ _ (λ q. last_shape true 41 (lx.text_tail v) c rest q (a_tail c is) tt) (λ no_q.
    pick (Shape true (41 ∷ (c ++ rest))) (nat_eq (first_byte rest) 92 && nat_eq (second_byte rest) 40) _ _ (λ q. inner_shape true 41 (lx.text_mid v) c rest q (a_middle c is) tt)
    (λ no_i. stuck c rest v refl is (stuck_at rest stop no_q no_i) refl refl))

plain_high : (b : ℕ) → 128 ≤ b → is_plain b ≡ true
plain_high b high = grind (arith, nat_tests)

stop_low : (rest : List ℕ) → content_from false rest ≡ 0 → first_byte rest < 128
stop_low [] stop = omega arith
stop_low (b ∷ bs) stop = elim (cases_lt b 128) [ inl low ↦ low | inr high ↦ absurd (omega (arith, stop, plain_cons b bs (plain_high b high))) ]

piece_is : (later : Bool) (bs : List ℕ) → piece_prefix later bs ≡ piece_of later (take (content_len bs) bs) (content_len bs) (drop (content_len bs) bs)
unfolding piece_prefix
piece_is later bs = refl

pub piece_parts : (later : Bool) (c rest : List ℕ) → content_len (c ++ rest) ≡ length c → piece_prefix later (c ++ rest) ≡ piece_of later c (length c) rest
piece_parts later c rest len =
    let P : ℕ → Prefix = λ k. piece_of later (take k (c ++ rest)) k (drop k (c ++ rest)) in
    let Q : List ℕ → Prefix = λ us. piece_of later us (length c) (drop (length c) (c ++ rest)) in
    let R : List ℕ → Prefix = λ us. piece_of later c (length c) us in
    piece_is later (c ++ rest) ∙ ap P len ∙ ap Q (take_at c rest (length c) refl) ∙ ap R (drop_at c rest (length c) refl)

not_same : (n m : ℕ) → nat_eq n m ≡ false → n ≤ m → n < m
not_same n m e le = grind (arith, nat_tests)

invalid_shape : (later : Bool) (o : ℕ) (c v rest : List ℕ) → opens_piece later o ≡ true → Means c v → content_from false rest ≡ 0 → nat_eq (utf8_valid_len c) (length c) ≡ false → Shape later (o ∷ (c ++ rest)) (steps.refusal Lexical (utf8_valid_len c + 1))
invalid_shape later o c v rest opens means stop isnt =
    let n : ℕ = utf8_valid_len c in
    let less : n < length c = not_same n (length c) isnt (utf8_valid_len_le c) in
    let cut = cut_before means n less (high_behind c less) in
    stuck (take n c) (drop n c ++ rest) cut.value opens (record { means = cut.means; utf8 = valid_prefix c }) (at_no_character (no_character c rest less (stop_low rest stop)))
    (ap (λ us. us ++ rest) (sym (take-append-drop n c)) ∙ append_assoc (take n c) (drop n c) rest) (omega (arith, length-take n c))

quote_shape : (later : Bool) (bs : List ℕ) → Shape later (34 ∷ bs) (piece_prefix false bs)
quote_shape later bs =
    let f = prefix_content bs in
    let e : piece_prefix false bs ≡ piece_of false f.content (length f.content) f.rest = ap (piece_prefix false) f.split ∙ piece_parts false f.content f.rest (ap content_len (sym f.split) ∙ f.len) in
    let P : List ℕ → Type 0 = λ us. Shape later (34 ∷ us) (piece_of false f.content (length f.content) f.rest) in
    subst (Shape later (34 ∷ bs)) (sym e) (subst P (sym f.split)
    (pick (Shape later (34 ∷ (f.content ++ f.rest))) (nat_eq (utf8_valid_len f.content) (length f.content)) _ _
    (λ t. subst (λ v. Shape later (34 ∷ (f.content ++ f.rest)) (piece_end false v (length f.content) f.rest)) (sym (meaning_of f.means))
    (quote_end later f.content f.value f.rest (record { means = f.means; utf8 = valid_whole f.content ((Decides-eqb _ _).0 t) }) f.stops))
    (λ t. invalid_shape later 34 f.content f.value f.rest refl f.means f.stops t)))

later_shape : (bs : List ℕ) → Shape true (41 ∷ bs) (piece_prefix true bs)
later_shape bs =
    let f = prefix_content bs in
    let e : piece_prefix true bs ≡ piece_of true f.content (length f.content) f.rest = ap (piece_prefix true) f.split ∙ piece_parts true f.content f.rest (ap content_len (sym f.split) ∙ f.len) in
    let P : List ℕ → Type 0 = λ us. Shape true (41 ∷ us) (piece_of true f.content (length f.content) f.rest) in
    subst (Shape true (41 ∷ bs)) (sym e) (subst P (sym f.split)
    (pick (Shape true (41 ∷ (f.content ++ f.rest))) (nat_eq (utf8_valid_len f.content) (length f.content)) _ _
    (λ t. subst (λ v. Shape true (41 ∷ (f.content ++ f.rest)) (piece_end true v (length f.content) f.rest)) (sym (meaning_of f.means))
    (later_end f.content f.value f.rest (record { means = f.means; utf8 = valid_whole f.content ((Decides-eqb _ _).0 t) }) f.stops))
    (λ t. invalid_shape true 41 f.content f.value f.rest refl f.means f.stops t)))

-- comments
comment_shape : (later : Bool) (bs : List ℕ) → Shape later (47 ∷ 42 ∷ bs) (comment_of (comment_len bs))
comment_shape later bs = go (comment_len bs) refl
  where
    go : (o : Option ℕ) → comment_len bs ≡ o → Shape later (47 ∷ 42 ∷ bs) (comment_of o)
    go None e = lexical
    go (Some n) e =
        let f = comment_ends bs n e in
        noted f.content f.rest f.first (ap (λ us. 47 ∷ 42 ∷ us) (append_assoc f.content (42 ∷ 47 ∷ []) f.rest ∙ f.split)) (omega (arith, f.len, length-append f.content (42 ∷ 47 ∷ [])))

-- symbols
no_and : (t u : Bool) → t ≡ true → (t && u) ≡ false → u ≡ false
no_and true u e h = h
no_and false u e h = cc

and_taken : (c d : ℕ) → nat_eq c 92 ≡ true → symbol_at 47 c d ≡ Some (SAnd, 2)
unfolding symbol_at
and_taken c d e = rw e refl

some_no_none : {s : Symbol × ℕ} → Some s ≡ None → ⊥
some_no_none e = cc

left_shape : (b : ℕ) (bs : List ℕ) → symbol_at b (first_byte bs) (second_byte bs) ≡ None → (nat_eq b 47 && nat_eq (first_byte bs) 42) ≡ false → is_left_out_byte b ≡ true → IsLeftOut (b ∷ bs)
left_shape b bs none no_comment is = go (nat_eq b 47) (nat_eq (first_byte bs) 92) refl refl
  where
    go : (t u : Bool) → nat_eq b 47 ≡ t → nat_eq (first_byte bs) 92 ≡ u → IsLeftOut (b ∷ bs)
    go false u e f = left_byte bs is e
    go true true e f = absurd (some_no_none (sym (and_taken (first_byte bs) (second_byte bs) f) ∙ ap (λ x. symbol_at x (first_byte bs) (second_byte bs)) (sym ((Decides-eqb b 47).0 e)) ∙ none))
    go true false e f = subst (λ x. IsLeftOut (x ∷ bs)) (sym ((Decides-eqb b 47).0 e)) (left_slash bs f (no_and (nat_eq b 47) (nat_eq (first_byte bs) 42) e no_comment))

closes : (b : ℕ) (bs : List ℕ) (n : ℕ) (later : Bool) (s : Symbol) → (later && nat_eq b 41) ≡ false → take n (b ∷ bs) ≡ symbol_text s → later ≡ true → s ≡ SRParen → ⊥
closes b bs zero later s free spells is same = nil_cons (spells ∙ ap symbol_text same)
  where
    nil_cons : {x : ℕ} {xs : List ℕ} → [] ≡ x ∷ xs → ⊥
    nil_cons e = cc
closes b bs (suc n) later s free spells is same =
    let byte : b ≡ 41 = ap first_byte (spells ∙ ap symbol_text same) in
    never_true (sym (no_and later (nat_eq b 41) is free) ∙ (Decides-eqb b 41).1 byte)

found_shape : (later : Bool) (b : ℕ) (bs : List ℕ) (o : Option (Symbol × ℕ)) → symbol_at b (first_byte bs) (second_byte bs) ≡ o → IsFound (b ∷ bs) o → (later && nat_eq b 41) ≡ false → (nat_eq b 47 && nat_eq (first_byte bs) 42) ≡ false → Shape later (b ∷ bs) (symbol_or_fault b o)
found_shape later b bs None e none_found no_later no_comment = pick (Shape later (b ∷ bs)) (is_left_out_byte b) _ _ (λ is. left (left_shape b bs e no_comment is)) (λ _. lexical)
found_shape later b bs (Some x) e (one_found {s = s} {n = n} spells le) no_later no_comment = spelled (subst (λ w. Spells later w (lx.sym s)) (sym spells) (a_symbol s (closes b bs n later s no_later spells))) le tt

opened : (later : Bool) (b : ℕ) (bs : List ℕ) → (later && nat_eq b 41) ≡ true → Shape later (b ∷ bs) (piece_prefix true bs)
opened true b bs is = subst (λ x. Shape true (x ∷ bs) (piece_prefix true bs)) (sym ((Decides-eqb b 41).0 is)) (later_shape bs)
opened false b bs is = cc

noted_shape : (later : Bool) (b : ℕ) (bs : List ℕ) → (nat_eq b 47 && nat_eq (first_byte bs) 42) ≡ true → Shape later (b ∷ bs) (comment_of (comment_len (drop 1 bs)))
noted_shape later b [] is = absurd (never_true (and_parts (nat_eq b 47) false is).1)
noted_shape later b (c ∷ bs) is =
    let parts = and_parts (nat_eq b 47) (nat_eq c 42) is in
    subst (λ x. Shape later (x ∷ c ∷ bs) (comment_of (comment_len bs))) (sym ((Decides-eqb b 47).0 parts.0)) (subst (λ x. Shape later (47 ∷ x ∷ bs) (comment_of (comment_len bs))) (sym ((Decides-eqb c 42).0 parts.1)) (comment_shape later bs))

pub shape_cons : (later : Bool) (b : ℕ) (bs : List ℕ) → Shape later (b ∷ bs) (prefix_of later (b ∷ bs))
unfolding prefix_of
shape_cons later b bs =
    let P = Shape later (b ∷ bs) in
    pick P (is_blank b) _ _ blank (λ _.
    pick P (is_letter b) _ _ (λ is. word_shape later (b ∷ bs) is) (λ _.
    pick P (is_digit b) _ _ (λ is. digits_shape later (b ∷ bs) is) (λ _.
    pick P (nat_eq b 34) _ _ (λ is. subst (λ x. Shape later (x ∷ bs) (piece_prefix false bs)) (sym ((Decides-eqb b 34).0 is)) (quote_shape later bs)) (λ _.
    pick P (later && nat_eq b 41) _ _ (λ is. opened later b bs is) (λ no_later.
    pick P (nat_eq b 37) _ _ (λ is. line ((Decides-eqb b 37).0 is)) (λ _.
    pick P (nat_eq b 47 && nat_eq (first_byte bs) 42) _ _ (λ is. noted_shape later b bs is)
    (λ no_comment. found_shape later b bs _ refl (symbol_is_found (b ∷ bs)) no_later no_comment)))))))
